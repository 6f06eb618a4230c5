use Rattle.std.proofs.Common.{◌≢◌, length}
use Rattle.std.specs.List.{AllByRecursion}
use Rattle.wire_front.proofs.naming.is_among.Given as goal

abbrev pub invariant-loop-rest : goal.invariant-loop-rest
invariant-loop-rest l = record {
  fewer : AllByRecursion (λ other. other ≢ l.target) l.others → AllByRecursion (λ other. other ≢ l.target) l.rest;
  more : AllByRecursion (λ other. other ≢ l.target) l.rest → AllByRecursion (λ other. other ≢ l.target) l.others;
}

abbrev pub decreases-loop-rest : goal.decreases-loop-rest
decreases-loop-rest l = length l.rest
