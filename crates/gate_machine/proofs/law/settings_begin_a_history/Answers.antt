use Rattle.gate_machine.proofs.InForce.{settings_begin}
use Rattle.gate_machine.proofs.law.settings_begin_a_history.Goals as goal

pub returns : goal.returns
returns c = settings_begin
