use Rattle.std.proofs.Common.{◌≡◌, length}
use Rattle.std.specs.List.{AllByRecursion}
use Rattle.tbs_build.specs.Names.{IsShort}
use Rattle.format_tests.proofs.bodies.addresses.Given as goal

-- so many addresses already, each short
abbrev pub invariant-loop-last : goal.invariant-loop-last
invariant-loop-last l = record {
  count : length l.targets ≡ l.last;
  short : AllByRecursion IsShort l.targets;
}
