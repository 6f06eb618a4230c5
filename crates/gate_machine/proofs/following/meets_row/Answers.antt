use Rattle.std.proofs.Common.{◌↔◌, sym, subst}
use Rattle.std.specs.Prelude.{IsTrue, IfOk}
use Rattle.gate_entries.specs.declared.entry.What.{What}
use Rattle.gate_machine.specs.History.{MeetsRow}
use Rattle.gate_machine.proofs.following.meets_row.Goals as goal

pub returns-in-Send : goal.returns-in-Send
returns-in-Send c =
    subst (λ (w : What). IfOk c.comes_to_signer.result (λ meets. IsTrue meets ↔ MeetsRow c.args.before.now c.args.caller.now c.args.moment w)) (sym c.in-Send.is)
    c.comes_to_signer.ensures

pub returns-in-Order : goal.returns-in-Order
returns-in-Order c =
    subst (λ (w : What). IfOk c.order_comes.result (λ meets. IsTrue meets ↔ MeetsRow c.args.before.now c.args.caller.now c.args.moment w)) (sym c.in-Order.is)
    c.order_comes.ensures

pub returns-in-Settings : goal.returns-in-Settings
returns-in-Settings c =
    subst (λ (w : What). IfOk c.settings_come.result (λ meets. IsTrue meets ↔ MeetsRow c.args.before.now c.args.caller.now c.args.moment w)) (sym c.in-Settings.is)
    c.settings_come.ensures
