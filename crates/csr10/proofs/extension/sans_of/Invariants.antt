use Rattle.std.proofs.Common.{◌≡◌, Some, map, length}
use Rattle.der_text.specs.View.{nodes}
use Rattle.csr10.specs.Shape.{joined, each_of, sans_of_attribute}
use Rattle.csr10.proofs.extension.sans_of.Given as goal

-- the values so far stand before those of the rest
abbrev pub invariant-loop-rest : goal.invariant-loop-rest
invariant-loop-rest l =
    each_of sans_of_attribute (nodes l.attributes)
    ≡ joined (Some (map (λ s. s.now) l.sans.items)) (each_of sans_of_attribute (nodes l.rest))

abbrev pub decreases-loop-rest : goal.decreases-loop-rest
decreases-loop-rest l = length l.rest
