use Rattle.std.proofs.Common.{◌≡◌, ◌++◌, length}
use Rattle.names_core.specs.Address.{group_texts}
use Rattle.names_core.proofs.address.v6_text.Given as goal

abbrev pub invariant-loop-rest : goal.invariant-loop-rest
invariant-loop-rest l = l.texts ++ group_texts l.rest ≡ group_texts l.octets

abbrev pub decreases-loop-rest : goal.decreases-loop-rest
decreases-loop-rest l = length l.rest
