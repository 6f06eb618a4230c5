use Rattle.std.proofs.Common.{rules, ◌≡◌, ◌≢◌, [], None}
use Rattle.gate_machine.specs.Keys.{kept_for}
use Rattle.gate_machine.specs.Commands.Order.{OrderBreaks}
use Rattle.gate_machine.proofs.Rows.{comes}
use Rattle.gate_machine.proofs.commands.order.order_comes.Goals as goal

pub returns : goal.returns
returns c =
    let some : c.args.before.now ≢ [] = search rules in
    let new : kept_for c.args.caller.now c.args.key.now c.args.before.now ≡ None = search rules in
    comes c.args.before.now c.args.caller.now c.args.key.now (OrderBreaks c.args.key.now c.args.common c.args.days c.args.targets.now c.args.request.now)
    c.in_ok-broken_by_order.field-0 c.is_none.result some new c.in_ok-broken_by_order.ensures c.is_none.ensures
