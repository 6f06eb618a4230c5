use Rattle.std.proofs.Common.{◌≡◌, ◌≤◌}
use Rattle.gate_bench.specs.Rounds.{bases_found}
use Rattle.gate_bench.proofs.lookups.ask_often.Given as goal

-- the names of so many turns already, of which each counts once at most
abbrev pub invariant-loop-turn : goal.invariant-loop-turn
invariant-loop-turn l = record { found : l.found ≡ bases_found l.suffixes l.names l.turn; few : l.found ≤ l.turn }
