use Rattle.gate_machine.proofs.Steps.{steps_more, steps_extends, steps_sound, steps_recorded, steps_counted, steps_settled}
use Rattle.gate_machine.proofs.law.what_steps_keep.Goals as goal

pub returns-clause-more : goal.returns-clause-more
returns-clause-more c = steps_more

pub returns-clause-extends : goal.returns-clause-extends
returns-clause-extends c = steps_extends

pub returns-clause-sound : goal.returns-clause-sound
returns-clause-sound c = steps_sound

pub returns-clause-recorded : goal.returns-clause-recorded
returns-clause-recorded c = steps_recorded

pub returns-clause-counted : goal.returns-clause-counted
returns-clause-counted c = steps_counted

pub returns-clause-settled : goal.returns-clause-settled
returns-clause-settled c = steps_settled
