use Rattle.std.proofs.Common.{◌≢◌, length}
use Rattle.std.specs.List.{AllByRecursion}
use Rattle.gate_machine.specs.Commands.Order.{IsAmong}
use Rattle.gate_machine.proofs.names.is_among.Given as goal

abbrev pub invariant-loop-rest : goal.invariant-loop-rest
invariant-loop-rest l = record {
  fewer : AllByRecursion (λ other. other ≢ l.target) l.targets → AllByRecursion (λ other. other ≢ l.target) l.rest;
  more : AllByRecursion (λ other. other ≢ l.target) l.rest → AllByRecursion (λ other. other ≢ l.target) l.targets;
  behind : IsAmong l.target l.rest → IsAmong l.target l.targets;
  not_before : IsAmong l.target l.targets → IsAmong l.target l.rest;
}

abbrev pub decreases-loop-rest : goal.decreases-loop-rest
decreases-loop-rest l = length l.rest
