use Rattle.std.proofs.Common.{◌≡◌, length}
use Rattle.caa_climb.specs.Reading.{without_lead}
use Rattle.caa_climb.proofs.pieces.without_lead.Given as goal

abbrev pub invariant-loop-first : goal.invariant-loop-first
invariant-loop-first l = without_lead l.text ≡ without_lead l.fn.text

abbrev pub decreases-loop-first : goal.decreases-loop-first
decreases-loop-first l = length l.text
