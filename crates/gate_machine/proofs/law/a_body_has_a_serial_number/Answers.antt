use Rattle.gate_machine.proofs.Sends.{body_is_good}
use Rattle.gate_machine.proofs.law.a_body_has_a_serial_number.Goals as goal

pub returns : goal.returns
returns c = body_is_good
