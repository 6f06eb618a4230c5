use Rattle.caa_climb.proofs.IssueLemmas.{one_value, value_is_read, value_is}
use Rattle.caa_climb.proofs.issue_value.one_reading.Goals as goal

pub returns-clause-one : goal.returns-clause-one
returns-clause-one c = one_value

pub returns-clause-read : goal.returns-clause-read
returns-clause-read c = value_is_read

pub returns-clause-only : goal.returns-clause-only
returns-clause-only c = λ bytes i p e. value_is bytes (i, p) e
