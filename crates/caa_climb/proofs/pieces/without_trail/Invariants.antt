use Rattle.std.proofs.Common.{◌≡◌, length}
use Rattle.caa_climb.specs.Reading.{without_trail}
use Rattle.caa_climb.proofs.pieces.without_trail.Given as goal

abbrev pub invariant-loop-last : goal.invariant-loop-last
invariant-loop-last l = without_trail l.text ≡ without_trail l.fn.text

abbrev pub decreases-loop-last : goal.decreases-loop-last
decreases-loop-last l = length l.text
