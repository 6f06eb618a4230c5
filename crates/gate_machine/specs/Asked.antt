-- Which command an entry keeps.
use Rattle.std.specs.Prelude.{Option, Some, None}
use Rattle.gate_entries.specs.declared.command.Command.{Command}
use Rattle.gate_entries.specs.declared.command.Command.TheVariants as commands
use Rattle.gate_entries.specs.declared.entry.What.{What}
use Rattle.gate_entries.specs.declared.entry.What.TheVariants as whats

-- the command whose content the entry keeps; a challenge keeps drawn bytes beside it
abbrev pub asked_in : What → Option Command
asked_in (whats.Settings bytes) = None
asked_in (whats.Order key common days targets request) = Some (commands.Order key targets days common request)
asked_in (whats.Challenge key order method target value thumb) = Some (commands.Challenge key order target method)
asked_in (whats.Observation key challenge seen_at seen) = Some (commands.Observe key challenge seen_at seen)
asked_in (whats.CaaAnswer key order target seen_at answers) = Some (commands.ObserveCaa key order target seen_at answers)
asked_in (whats.Send order body) = None
asked_in (whats.Signed order signature) = None
asked_in (whats.Blocked key spki) = Some (commands.Block key spki)
