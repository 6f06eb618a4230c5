use Rattle.std.proofs.Common.{◌≡◌, ◌-◌, ◌≤◌, length}
use Rattle.gate_entries.specs.Field.{items_at}
use Rattle.gate_entries.proofs.Loop.{with_front}
use Rattle.gate_entries.proofs.list.read_items.Given as goal

abbrev pub invariant-loop : goal.invariant-loop
invariant-loop g l = record {
  read : with_front l.items (items_at g.T.Field.reading (l.count - l.counter) l.rest) ≡ items_at g.T.Field.reading l.count l.bytes;
  within : length l.rest ≤ length l.bytes;
}
