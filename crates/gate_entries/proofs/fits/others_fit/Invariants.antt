use Rattle.std.proofs.Common.{◌≡◌, ◌+◌, ◌∷◌, length}
use Rattle.std.specs.List.{flat_map}
use Rattle.gate_entries.proofs.fits.others_fit.Given as goal

abbrev pub invariant-loop-rest : goal.invariant-loop-rest
invariant-loop-rest l =
    length (flat_map (λ next. 46 ∷ next) l.labels) + l.left ≡ length (flat_map (λ next. 46 ∷ next) l.rest) + l.room

abbrev pub decreases-loop-rest : goal.decreases-loop-rest
decreases-loop-rest l = length l.rest
