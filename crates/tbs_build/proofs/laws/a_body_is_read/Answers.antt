use Rattle.std.proofs.Common.{subst}
use Rattle.der_text.specs.Tree.{Node}
use Rattle.tbs_build.specs.Body.{IsBodyTree}
use Rattle.tbs_build.proofs.Bodies.{tree_of, body_is_der, is_body_tree}
use Rattle.tbs_build.proofs.Readings.{one_plan}
use Rattle.tbs_build.proofs.Values.{all_spelled}
use Rattle.tbs_build.proofs.laws.a_body_is_read.Goals as goal

pub returns-clause-der : goal.returns-clause-der
returns-clause-der c = λ plan sound. (tree_of plan sound, body_is_der plan sound)

pub returns-clause-parts : goal.returns-clause-parts
returns-clause-parts c = λ plan tree sound der.
    let same = c.what_is_spelled_is_read.ensures.alone _ _ _ (body_is_der plan sound) der in
    subst (λ (t : Node). IsBodyTree plan t) same (is_body_tree plan sound)

pub returns-clause-values : goal.returns-clause-values
returns-clause-values c = all_spelled

pub returns-clause-one_plan : goal.returns-clause-one_plan
returns-clause-one_plan c =
    one_plan c.what_is_spelled_is_read.ensures.alone c.times_are_read_again.ensures.written c.times_are_read_again.ensures.one_number c.one_kind.ensures
