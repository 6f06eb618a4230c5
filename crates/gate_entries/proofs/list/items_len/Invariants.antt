use Rattle.std.proofs.Common.{◌≡◌, ◌+◌, length}
use Rattle.std.specs.List.{flat_map, AllByRecursion}
use Rattle.gate_entries.proofs.list.items_len.Given as goal

abbrev pub invariant-loop-rest : goal.invariant-loop-rest
invariant-loop-rest g l = record {
  total : l.total + length (flat_map g.T.Field.spelling l.rest) ≡ length (flat_map g.T.Field.spelling l.items);
  each : AllByRecursion g.T.Field.HasSpelling l.rest;
}

abbrev pub decreases-loop-rest : goal.decreases-loop-rest
decreases-loop-rest g l = length l.rest
