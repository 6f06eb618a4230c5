use Rattle.gate_entries.specs.Spelling.{entry_bytes}
use Rattle.gate_entries.proofs.Pieces.{five}
use Rattle.gate_entries.proofs.writing.put_entry.Goals as goal

pub returns : goal.returns
unfolding entry_bytes
returns c = record {
  ok = five _ _ _ _ _ _ _ _ _ _ _ c.in_ok-put_kind.ensures.ok c.in_ok-put_u64.ensures.ok c.in_ok-put_u64-2.ensures.ok c.in_ok-put_counted16.ensures.ok
      c.in_ok-put_what.ensures.ok;
}
