use Rattle.std.proofs.Common.{◌≡◌, ◌+◌, ◌*◌, ◌≤◌, ◌++◌, length}
use Rattle.std.specs.List.{AllByRecursion}
use Rattle.journal_core.specs.Journal.{IsPayload, opened, no_chain, chain_after}
use Rattle.journal_core.proofs.reading.read_groups.Given as goal

abbrev pub invariant-loop-rest : goal.invariant-loop-rest
invariant-loop-rest l = record {
  whole : l.bytes ≡ opened no_chain l.payloads ++ l.rest;
  linked : l.chain ≡ chain_after no_chain l.payloads;
  each : AllByRecursion IsPayload l.payloads;
  some : 1 ≤ length l.rest;
  count : 38 * length l.payloads + length l.rest ≤ length l.bytes;
}

abbrev pub decreases-loop-rest : goal.decreases-loop-rest
decreases-loop-rest l = length l.rest
