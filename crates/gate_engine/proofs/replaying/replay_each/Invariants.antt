use Rattle.std.proofs.Common.{◌≡◌, [], ◌++◌, length}
use Rattle.std.specs.Prelude.{◌+◌, ◌≤◌, sum_by}
use Rattle.journal_core.specs.Journal.{total_of, most_bytes}
use Rattle.gate_machine.specs.History.{payloads_of, EachFollows, journal_place}
use Rattle.gate_engine.proofs.replaying.replay_each.Given as goal

abbrev pub invariant-loop-rest : goal.invariant-loop-rest
invariant-loop-rest l = record {
  split : l.payloads ≡ payloads_of l.history.items ++ l.rest;
  each : EachFollows [] l.history.items;
  place : l.at ≡ journal_place l.history.items;
  room : l.at + sum_by total_of l.rest + 1 ≤ most_bytes;
}

abbrev pub decreases-loop-rest : goal.decreases-loop-rest
decreases-loop-rest l = length l.rest
