use Rattle.std.proofs.Common.{◌≡◌, Some, length}
use Rattle.der_text.specs.View.{nodes}
use Rattle.tbs_shape.specs.Shape.{joined, each_of, extension_in}
use Rattle.tbs_shape.proofs.list.each_extension.Given as goal

-- the extensions so far stand before those of the rest
abbrev pub invariant-loop-rest : goal.invariant-loop-rest
invariant-loop-rest l =
    each_of extension_in (nodes l.parts) ≡ joined (Some l.extensions.items) (each_of extension_in (nodes l.rest))

abbrev pub decreases-loop-rest : goal.decreases-loop-rest
decreases-loop-rest l = length l.rest
