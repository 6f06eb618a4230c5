use Rattle.gate_entries.proofs.Entries.{one_entry}
use Rattle.gate_entries.proofs.law.one_spelling.Goals as goal

pub returns : goal.returns
returns c = one_entry
