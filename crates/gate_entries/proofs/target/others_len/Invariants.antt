use Rattle.std.proofs.Common.{◌≡◌, ◌+◌, ◌∷◌, length}
use Rattle.std.specs.List.{flat_map}
use Rattle.gate_entries.proofs.target.others_len.Given as goal

abbrev pub invariant-loop-rest : goal.invariant-loop-rest
invariant-loop-rest l = l.total + length (flat_map (λ next. 46 ∷ next) l.rest) ≡ length (flat_map (λ next. 46 ∷ next) l.labels)

abbrev pub decreases-loop-rest : goal.decreases-loop-rest
decreases-loop-rest l = length l.rest
