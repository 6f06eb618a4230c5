-- What a command is answered by its caller's sight alone: a draft, which stands unless drawn bytes repeat or the journal is full.
use Rattle.std.specs.Prelude.{◌≡◌, ℕ, List, Some}
use Rattle.gate_entries.specs.declared.command.Command.{Command}
use Rattle.gate_entries.specs.declared.entry.Entry.{Entry}
use Rattle.gate_entries.specs.declared.reply.Reply.{Reply}
use Rattle.gate_entries.specs.declared.reply.Reply.TheVariants as replies
use Rattle.gate_machine.specs.declared.answer.Answer.{Answer}
use Rattle.gate_machine.specs.declared.answer.Answer.TheVariants.{Say, Write}
use Rattle.gate_machine.specs.declared.draft.Draft.{Draft}
use Rattle.gate_machine.specs.declared.draft.Used.TheVariants as used
use Rattle.gate_machine.specs.Asked.{asked_in}
use Rattle.gate_machine.specs.Cases.{Is, Case, Test, With}
use Rattle.gate_machine.specs.Rules.{TellsLeast}
use Rattle.gate_machine.specs.Sight.{Sight}

-- an answer without drawn bytes
abbrev pub plain : Answer → Draft
plain answer = record { used = used.Nothing; answer = answer }

abbrev pub says : Reply → Draft
says reply = plain (Say reply)

abbrev pub writes : Entry → Draft
writes entry = plain (Write entry)

-- under a key that stands: the kept reply where the entry keeps the same command, or else its number
abbrev pub JudgesKept : Command → (Entry → Reply) → Entry → Draft → Type 0
JudgesKept command reply kept = Test (asked_in kept.what ≡ Some command) (Is (says (reply kept))) (Is (says (replies.KeyReused kept.number)))

-- a command under a retry key: what stands under the key is told, and a new key goes on
abbrev pub UnderKey : Sight → List ℕ → Command → (Entry → Reply) → (Draft → Type 0) → Draft → Type 0
UnderKey sight key command reply new = Case (sight.kept key) new (JudgesKept command reply)

-- the least rule that the fields break is told, and good fields go on
abbrev pub JudgesFields : (ℕ → Type 0) → (Draft → Type 0) → Draft → Type 0
JudgesFields breaks good = With (TellsLeast breaks) (λ told. Case told good (λ rule. Is (says (replies.BadFields rule))))
