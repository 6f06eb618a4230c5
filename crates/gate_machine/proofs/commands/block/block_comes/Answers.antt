use Rattle.std.proofs.Common.{rules, ◌≡◌, ◌≢◌, [], None}
use Rattle.gate_machine.specs.Keys.{kept_for}
use Rattle.gate_machine.specs.Commands.Block.{BlockBreaks}
use Rattle.gate_machine.proofs.Rows.{comes}
use Rattle.gate_machine.proofs.commands.block.block_comes.Goals as goal

pub returns : goal.returns
returns c =
    let some : c.args.before.now ≢ [] = search rules in
    let new : kept_for c.args.caller.now c.args.key.now c.args.before.now ≡ None = search rules in
    comes c.args.before.now c.args.caller.now c.args.key.now (BlockBreaks c.args.key.now c.args.spki.now) c.broken_by_block.result c.is_none.result some new
    c.broken_by_block.ensures c.is_none.ensures
