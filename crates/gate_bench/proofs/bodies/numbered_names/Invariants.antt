use Rattle.std.proofs.Common.{◌≡◌, length}
use Rattle.std.specs.List.{AllByRecursion}
use Rattle.tbs_build.specs.Names.{IsShort}
use Rattle.gate_bench.proofs.bodies.numbered_names.Given as goal

-- so many names already, each short
abbrev pub invariant-loop-number : goal.invariant-loop-number
invariant-loop-number l = record {
  count : length l.targets ≡ l.number;
  short : AllByRecursion IsShort l.targets;
}
