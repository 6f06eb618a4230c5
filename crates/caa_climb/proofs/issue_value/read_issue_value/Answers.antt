use Rattle.caa_climb.proofs.IssueLemmas.{found_is, none_is}
use Rattle.caa_climb.proofs.issue_value.read_issue_value.Goals as goal

pub returns-clause-found : goal.returns-clause-found
returns-clause-found c = found_is (λ v. (v.issuer.now, v.parameters.now)) c.read.result c.args.value.now c.read.ensures

pub returns-clause-none : goal.returns-clause-none
returns-clause-none c = none_is (λ v. (v.issuer.now, v.parameters.now)) c.read.result c.args.value.now c.read.ensures
