use Rattle.sound_body.specs.Rules.{CanBeBroken}
use Rattle.sound_body.proofs.Lists.{each_can_be_broken}
use Rattle.sound_body.proofs.Rules.{known_of, broken_by_a_sound_body, any_may_break}
use Rattle.sound_body.proofs.laws.the_lint_of_a_sound_body.Goals as goal

pub returns-clause-rules : goal.returns-clause-rules
returns-clause-rules c =
    let known = known_of c.a_sound_body_says_its_plan.ensures.shape c.a_sound_body_says_its_plan.ensures.says
    c.a_body_is_read.ensures.values in
    λ plan suffixes moment rule sound octets broken.
    broken_by_a_sound_body known plan sound CanBeBroken suffixes moment rule octets
    (λ contents is. any_may_break contents suffixes moment) broken

pub returns-clause-list : goal.returns-clause-list
returns-clause-list c =
    let known = known_of c.a_sound_body_says_its_plan.ensures.shape c.a_sound_body_says_its_plan.ensures.says
    c.a_body_is_read.ensures.values in
    λ plan suffixes moment list sound octets lint. each_can_be_broken list
    (λ rule has. broken_by_a_sound_body known plan sound CanBeBroken suffixes moment rule octets
    (λ contents is. any_may_break contents suffixes moment) ((lint.exact rule).0 has))
