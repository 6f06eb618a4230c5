use Rattle.gate_machine.proofs.Sends.{own_keeps_rules}
use Rattle.gate_machine.proofs.commands.finalize.own_key.Goals as goal

pub key_of-requires : goal.key_of-requires
key_of-requires c = record {
  kept = own_keeps_rules c.args.caller.now c.args.number c.args.history.now c.args.order.now c.requires.each c.requires.own;
}
