use Rattle.profile_lint.proofs.Broken.{lint_of}
use Rattle.profile_lint.proofs.laws.a_list_tells_each_rule.Goals as goal

pub returns : goal.returns
returns c = λ bytes profile suffixes moment list. lint_of bytes profile suffixes moment list c.one_reading.ensures
