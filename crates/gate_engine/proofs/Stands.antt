-- An entry's spelling.
use Rattle.std.proofs.Common.{◌≤◌, length, arith}
use Rattle.gate_entries.specs.declared.entry.Entry.{Entry}
use Rattle.gate_entries.specs.Spelling.{entry_bytes}

-- it isn't empty
pub some_bytes : (entry : Entry) → 1 ≤ length (entry_bytes entry)
unfolding entry_bytes
some_bytes entry = omega arith
