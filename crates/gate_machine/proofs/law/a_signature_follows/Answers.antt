use Rattle.gate_machine.proofs.Histories.{signature_follows}
use Rattle.gate_machine.proofs.law.a_signature_follows.Goals as goal

pub returns : goal.returns
returns c = signature_follows
