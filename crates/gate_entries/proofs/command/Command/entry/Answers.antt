use Rattle.std.proofs.Common.{◌<◌, ◌^◌, Option, sym, subst, arith}
use Rattle.std.specs.Prelude.{IfSome}
use Rattle.gate_entries.specs.declared.entry.Entry.{Entry}
use Rattle.gate_entries.specs.Spelling.{IsEntry}
use Rattle.gate_entries.proofs.Sizes.{spelled_what, command_spelled}
use Rattle.gate_entries.proofs.command.Command.entry.Goals as goal

pub returns-clause-spelled : goal.returns-clause-spelled
returns-clause-spelled c =
    let number : c.args.number < 2 ^ 64 = omega arith in
    let moment : c.args.moment.0 < 2 ^ 64 = omega arith in
    subst (λ (e : Option Entry). IfSome e IsEntry) (sym c.in_ok-entry.ensures.entry)
    (command_spelled c.args.number c.args.moment c.args.caller.now c.args.self.now number moment c.requires.command (spelled_what c.args.number c.args.moment c.args.caller.now c.args.self.now c.in_ok-entry.entry c.in_ok-entry.ensures.entry c.in_ok-entry.ensures.what) c.requires.caller)
