use Rattle.sound_body.proofs.Said.{has_shape, says_plan}
use Rattle.sound_body.proofs.laws.a_sound_body_says_its_plan.Goals as goal

pub returns-clause-shape : goal.returns-clause-shape
returns-clause-shape c = λ plan sound.
    let der = c.a_body_is_read.ensures.der plan sound in
    has_shape c.what_is_spelled_is_read.ensures.alone c.times_are_read_again.ensures.written plan der.0 sound der.1
    (c.a_body_is_read.ensures.parts plan der.0 sound der.1)

pub returns-clause-says : goal.returns-clause-says
returns-clause-says c = λ plan body sound is_body.
    says_plan c.what_is_spelled_is_read.ensures.alone c.times_are_read_again.ensures.written plan body is_body sound
    (c.a_body_is_read.ensures.parts plan is_body.tree sound is_body.spelled)
