use Rattle.std.proofs.Common.{◌≤◌, List, length, ap, subst}
use Rattle.std.specs.List.{AllByRecursion}
use Rattle.gate_base.specs.declared.name.Target.{Target}
use Rattle.tbs_build.specs.Small.{IsShort}
use Rattle.gate_machine.specs.Sends.{targets_of}
use Rattle.gate_machine.proofs.Sends.{own_is_order, targets_fit, not_order}
use Rattle.gate_machine.proofs.commands.finalize.new_body.Goals as goal

pub small_body-requires-clause-count : goal.small_body-requires-clause-count
small_body-requires-clause-count c =
    let is = own_is_order c.args.caller.now c.args.number c.args.history.now c.args.order.now c.requires.each c.requires.own in
    let fit = targets_fit c.args.order.now.what is.1 is.0 in
    subst (λ (targets : List Target). length targets ≤ 255) (ap targets_of c.in-Order.is) fit.0

pub small_body-requires-clause-short : goal.small_body-requires-clause-short
small_body-requires-clause-short c =
    let is = own_is_order c.args.caller.now c.args.number c.args.history.now c.args.order.now c.requires.each c.requires.own in
    let fit = targets_fit c.args.order.now.what is.1 is.0 in
    subst (λ (targets : List Target). AllByRecursion IsShort targets) (ap targets_of c.in-Order.is) fit.1

pub unreachable-requires : goal.unreachable-requires
unreachable-requires c =
    let is = own_is_order c.args.caller.now c.args.number c.args.history.now c.args.order.now c.requires.each c.requires.own in
    not_order c.args.order.now.what is.0 c.in_default.not-Order
