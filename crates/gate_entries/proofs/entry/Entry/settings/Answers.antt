use Rattle.std.proofs.Common.{◌<◌, ◌^◌, sym, subst, arith}
use Rattle.gate_entries.specs.Spelling.{IsEntry}
use Rattle.gate_entries.proofs.Sizes.{settings_spelled}
use Rattle.gate_entries.proofs.entry.Entry.settings.Goals as goal

pub returns-clause-spelled : goal.returns-clause-spelled
returns-clause-spelled c =
    let number : c.args.number < 2 ^ 64 = omega arith in
    let moment : c.args.moment.0 < 2 ^ 64 = omega arith in
    subst IsEntry (sym c.in_ok-entry.ensures) (settings_spelled c.args.number c.args.moment c.args.bytes.now number moment c.requires)
