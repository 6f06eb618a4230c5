use Rattle.std.proofs.Common.{◌≡◌, Some, map, length}
use Rattle.der_text.specs.View.{nodes}
use Rattle.csr10.specs.Shape.{joined, each_of, sans_of_extension}
use Rattle.csr10.proofs.extension.push_extensions.Given as goal

-- the values so far stand before those of the rest
abbrev pub invariant-loop-rest : goal.invariant-loop-rest
invariant-loop-rest l =
    joined (Some (map (λ s. s.now) l.fn.sans.items)) (each_of sans_of_extension (nodes l.extensions))
    ≡ joined (Some (map (λ s. s.now) l.sans.items)) (each_of sans_of_extension (nodes l.rest))

abbrev pub decreases-loop-rest : goal.decreases-loop-rest
decreases-loop-rest l = length l.rest
