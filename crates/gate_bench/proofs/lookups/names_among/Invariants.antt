use Rattle.std.proofs.Common.{◌≡◌, length}
use Rattle.gate_bench.proofs.lookups.names_among.Given as goal

-- the names of so many turns already
abbrev pub invariant-loop-turn : goal.invariant-loop-turn
invariant-loop-turn l = length l.names.items ≡ l.turn
