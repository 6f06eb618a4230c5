use Rattle.std.proofs.Common.{rules}
use Rattle.gate_machine.specs.History.{IsInOrder}
use Rattle.gate_machine.proofs.InForce.{follows_row}
use Rattle.gate_machine.proofs.following.follows.Goals as goal

pub returns : goal.returns
returns c =
    let in_order : IsInOrder c.args.before.now c.args.entry.now = search rules in
    follows_row c.args.before.now c.args.entry.now c.meets_row.result c.requires.spelled in_order c.meets_row.ensures
