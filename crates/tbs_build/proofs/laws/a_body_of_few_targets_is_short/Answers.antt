use Rattle.tbs_build.proofs.Bodies.{body_is_short}
use Rattle.tbs_build.proofs.Lengths.{are_short}
use Rattle.tbs_build.proofs.laws.a_body_of_few_targets_is_short.Goals as goal

pub returns-clause-few_targets : goal.returns-clause-few_targets
returns-clause-few_targets c = body_is_short

pub returns-clause-are_short : goal.returns-clause-are_short
returns-clause-are_short c = are_short c.names_are_read_again.ensures.few
