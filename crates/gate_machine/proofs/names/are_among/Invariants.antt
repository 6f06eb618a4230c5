use Rattle.std.proofs.Common.{length}
use Rattle.std.specs.List.{AllByRecursion}
use Rattle.gate_machine.specs.Commands.Order.{IsAmong}
use Rattle.gate_machine.proofs.names.are_among.Given as goal

abbrev pub invariant-loop-rest : goal.invariant-loop-rest
invariant-loop-rest l = record {
  fewer : AllByRecursion (λ target. IsAmong target l.others) l.targets → AllByRecursion (λ target. IsAmong target l.others) l.rest;
  more : AllByRecursion (λ target. IsAmong target l.others) l.rest → AllByRecursion (λ target. IsAmong target l.others) l.targets;
}

abbrev pub decreases-loop-rest : goal.decreases-loop-rest
decreases-loop-rest l = length l.rest
