-- Keys that an operator blocks: the rules on the fields, how the command is answered, and its row in a legal history.
use Rattle.std.specs.Prelude.{◌≡◌, ℕ, ◌⊎◌, List, []}
use Rattle.gate_entries.specs.declared.caller.Caller.{Caller}
use Rattle.gate_entries.specs.declared.command.Command.TheVariants as commands
use Rattle.gate_entries.specs.declared.entry.Entry.{Entry}
use Rattle.gate_entries.specs.declared.entry.What.TheVariants as whats
use Rattle.gate_entries.specs.declared.reply.Reply.{Reply}
use Rattle.gate_entries.specs.declared.reply.Reply.TheVariants as replies
use Rattle.gate_machine.specs.declared.draft.Draft.{Draft}
use Rattle.gate_machine.specs.declared.place.Place.{Place}
use Rattle.gate_machine.specs.Cases.{Is}
use Rattle.gate_machine.specs.Draft.{writes, UnderKey, JudgesFields}
use Rattle.gate_machine.specs.Rows.{ComesUnderKey}
use Rattle.gate_machine.specs.Rules.{HasBadKey}
use Rattle.gate_machine.specs.Sight.{Sight, entry_at}

-- F01: the retry key; F17: the key that is blocked is empty
abbrev pub BlockBreaks : List ℕ → List ℕ → ℕ → Type 0
BlockBreaks key spki rule = ((rule ≡ 1) × HasBadKey key) ⊎ ((rule ≡ 17) × (spki ≡ []))

abbrev pub blocked : ℕ → Reply
blocked number = replies.Blocked number

abbrev pub JudgesBlock : Sight → Place → Caller → List ℕ → List ℕ → Draft → Type 0
JudgesBlock sight place caller key spki =
    UnderKey sight key (commands.Block key spki) (λ kept. blocked kept.number)
    (JudgesFields (BlockBreaks key spki)
    (Is (writes (entry_at place caller (whats.Blocked key spki)))))

abbrev pub BlockComes : List Entry → List ℕ → List ℕ → List ℕ → Type 0
BlockComes before caller key spki = ComesUnderKey before caller key (BlockBreaks key spki)
