use Rattle.std.proofs.Common.{rules, ◌≡◌, ◌↔◌, ℕ, List, [], subst}
use Rattle.std.specs.Prelude.{IsTrue, IfOk}
use Rattle.gate_settings.specs.Meaning.{IsReadable}
use Rattle.gate_machine.specs.Commands.Settings.{AreInForce}
use Rattle.gate_machine.proofs.InForce.{settings_row}
use Rattle.gate_machine.proofs.commands.settings.settings_come.Goals as goal

pub returns : goal.returns
returns c =
    let nobody : c.args.caller.now ≡ [] = search rules in
    let other : ¬ (AreInForce c.args.bytes.now c.args.before.now) = search rules in
    let told : IfOk c.is_readable.result (λ readable. IsTrue readable ↔ IsReadable c.args.bytes.now) =
    subst (λ (b : List ℕ). IfOk c.is_readable.result (λ readable. IsTrue readable ↔ IsReadable b)) c.as_slice-2.ensures c.is_readable.ensures in
    settings_row c.args.before.now c.args.caller.now c.args.bytes.now c.is_readable.result nobody other told
