use Rattle.gate_machine.proofs.Sends.{one_body_each}
use Rattle.gate_machine.proofs.law.an_order_has_one_body.Goals as goal

pub returns : goal.returns
returns c = one_body_each
