use Rattle.std.proofs.Common.{◌≡◌, Some, length}
use Rattle.der_text.specs.View.{nodes}
use Rattle.tbs_shape.specs.Shape.{joined, each_of, attribute_in}
use Rattle.tbs_shape.proofs.list.push_each.Given as goal

-- the attributes so far stand before those of the rest
abbrev pub invariant-loop-rest : goal.invariant-loop-rest
invariant-loop-rest l =
    joined (Some l.fn.attributes.items) (each_of attribute_in (nodes l.parts))
    ≡ joined (Some l.attributes.items) (each_of attribute_in (nodes l.rest))

abbrev pub decreases-loop-rest : goal.decreases-loop-rest
decreases-loop-rest l = length l.rest
