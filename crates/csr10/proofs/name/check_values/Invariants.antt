use Rattle.std.proofs.Common.{◌↔◌, map, length}
use Rattle.std.specs.List.{AllByRecursion}
use Rattle.csr10.specs.Csr.{SpellsSequence}
use Rattle.csr10.proofs.name.check_values.Given as goal

-- the rest decides
abbrev pub invariant-loop-rest : goal.invariant-loop-rest
invariant-loop-rest l =
    AllByRecursion SpellsSequence (map (λ value. value.now) l.values) ↔ AllByRecursion SpellsSequence (map (λ value. value.now) l.rest)

abbrev pub decreases-loop-rest : goal.decreases-loop-rest
decreases-loop-rest l = length l.rest
