use Rattle.std.proofs.Common.{length}
use Rattle.der_text.proofs.Paths.{Counts}
use Rattle.der_text.proofs.part.element_at.Given as goal

-- the element that is meant lies so many places on
abbrev pub invariant-loop-first : goal.invariant-loop-first
invariant-loop-first l = Counts l.bytes l.i l.rest l.left

abbrev pub decreases-loop-first : goal.decreases-loop-first
decreases-loop-first l = length l.rest
