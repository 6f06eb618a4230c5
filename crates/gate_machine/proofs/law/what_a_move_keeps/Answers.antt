use Rattle.gate_machine.proofs.Faults.{move_faults, goes_native}
use Rattle.gate_machine.proofs.Moves.{move_extends, move_sound, move_settled}
use Rattle.gate_machine.proofs.law.what_a_move_keeps.Goals as goal

pub returns-clause-extends : goal.returns-clause-extends
returns-clause-extends c = move_extends

pub returns-clause-sound : goal.returns-clause-sound
returns-clause-sound c = move_sound

pub returns-clause-faults : goal.returns-clause-faults
returns-clause-faults c = move_faults

pub returns-clause-settled : goal.returns-clause-settled
returns-clause-settled c = move_settled

pub returns-clause-native : goal.returns-clause-native
returns-clause-native c = goes_native
