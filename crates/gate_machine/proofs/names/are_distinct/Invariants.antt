use Rattle.std.proofs.Common.{length}
use Rattle.gate_machine.specs.Commands.Order.{AreDistinct}
use Rattle.gate_machine.proofs.names.are_distinct.Given as goal

abbrev pub invariant-loop-rest : goal.invariant-loop-rest
invariant-loop-rest l = record {
  fewer : AreDistinct l.targets → AreDistinct l.rest;
  more : AreDistinct l.rest → AreDistinct l.targets;
}

abbrev pub decreases-loop-rest : goal.decreases-loop-rest
decreases-loop-rest l = length l.rest
