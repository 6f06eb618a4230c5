use Rattle.sound_body.proofs.Good.{list_is_exact, empty_is_clean}
use Rattle.sound_body.proofs.Rules.{known_of}
use Rattle.sound_body.proofs.laws.the_lint_of_good_targets.Goals as goal

pub returns-clause-exact : goal.returns-clause-exact
returns-clause-exact c =
    let known = known_of c.a_sound_body_says_its_plan.ensures.shape c.a_sound_body_says_its_plan.ensures.says
    c.a_body_is_read.ensures.values in
    λ plan suffixes moment list sound good judged. list_is_exact known plan sound good suffixes moment list judged
    (c.a_list_tells_each_rule.ensures _ _ _ _ _ judged)

pub returns-clause-empty : goal.returns-clause-empty
returns-clause-empty c =
    let known = known_of c.a_sound_body_says_its_plan.ensures.shape c.a_sound_body_says_its_plan.ensures.says
    c.a_body_is_read.ensures.values in
    λ plan suffixes moment list sound good judged. empty_is_clean plan suffixes moment list
    (list_is_exact known plan sound good suffixes moment list judged (c.a_list_tells_each_rule.ensures _ _ _ _ _ judged))
