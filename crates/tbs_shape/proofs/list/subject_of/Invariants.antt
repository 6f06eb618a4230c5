use Rattle.std.proofs.Common.{◌≡◌, Some, length}
use Rattle.der_text.specs.View.{nodes}
use Rattle.tbs_shape.specs.Shape.{joined, each_of, attributes_in}
use Rattle.tbs_shape.proofs.list.subject_of.Given as goal

-- the attributes so far stand before those of the rest
abbrev pub invariant-loop-rest : goal.invariant-loop-rest
invariant-loop-rest l =
    each_of attributes_in (nodes l.subject) ≡ joined (Some l.attributes.items) (each_of attributes_in (nodes l.rest))

abbrev pub decreases-loop-rest : goal.decreases-loop-rest
decreases-loop-rest l = length l.rest
