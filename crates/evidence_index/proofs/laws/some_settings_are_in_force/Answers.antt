use Rattle.evidence_index.proofs.Found.{some_in_force, now_said, bytes_now}
use Rattle.evidence_index.proofs.laws.some_settings_are_in_force.Goals as goal

pub returns-clause-some : goal.returns-clause-some
returns-clause-some c = some_in_force

pub returns-clause-said : goal.returns-clause-said
returns-clause-said c = now_said

pub returns-clause-now : goal.returns-clause-now
returns-clause-now c = bytes_now
