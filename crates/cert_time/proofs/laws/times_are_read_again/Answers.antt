use Rattle.cert_time.proofs.Moments.{is_written, one_text}
use Rattle.cert_time.proofs.laws.times_are_read_again.Goals as goal

pub returns-clause-written : goal.returns-clause-written
returns-clause-written c = is_written

pub returns-clause-one_text : goal.returns-clause-one_text
returns-clause-one_text c = λ tag tag' content content' seconds a b. one_text tag tag' content content' seconds a b
