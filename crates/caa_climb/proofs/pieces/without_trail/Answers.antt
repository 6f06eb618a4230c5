use Rattle.std.proofs.Common.{◌∙◌, sym, ap}
use Rattle.caa_climb.specs.Reading.{without_trail}
use Rattle.caa_climb.proofs.Bytes.{trail_drops, trail_stays}
use Rattle.caa_climb.proofs.pieces.without_trail.Goals as goal

pub loop-last-preserved : goal.loop-last-preserved
loop-last-preserved c =
    sym (trail_drops c.in-Some.rest.now c.in-Some.last.now (sym c.if-not-is_blank.ensures))
    ∙ sym (ap without_trail c.in-Some.ensures.cases.0)
    ∙ c.loop-last.invariant

pub returns-then-not-is_blank : goal.returns-then-not-is_blank
returns-then-not-is_blank c =
    c.in-Some.ensures.cases.0
    ∙ sym (trail_stays c.in-Some.rest.now c.in-Some.last.now (sym c.if-not-is_blank.ensures))
    ∙ sym (ap without_trail c.in-Some.ensures.cases.0)
    ∙ c.loop-last.invariant
