-- What becomes of settings that aren't in force: their entry is written behind the history, or the journal is full.
use Rattle.std.specs.Prelude.{ℕ, List, [], ◌∷◌}
use Rattle.gate_entries.specs.declared.entry.Entry.{Entry}
use Rattle.gate_entries.specs.declared.reply.Reply.TheVariants as replies
use Rattle.gate_entries.specs.Command.{settings_entry}
use Rattle.gate_machine.specs.declared.answer.Answer.{Answer}
use Rattle.gate_machine.specs.declared.answer.Answer.TheVariants.{Say, Write}
use Rattle.gate_machine.specs.declared.place.Place.{Place}
use Rattle.gate_machine.specs.Cases.{Is, Test}
use Rattle.gate_machine.specs.Ends.{HasRoom}
use Rattle.gate_machine.specs.Sight.{place_of}

-- the entry of settings at a place
abbrev pub renewal_at : Place → List ℕ → Entry
renewal_at place bytes = settings_entry place.number place.moment bytes

abbrev pub renewal_of : List Entry → ℕ → List ℕ → Answer → Type 0
renewal_of history reading bytes =
    Test (HasRoom history (renewal_at (place_of history reading) bytes))
    (Is (Write (renewal_at (place_of history reading) bytes))) (Is (Say replies.Full))

-- the history that begins with these settings
abbrev pub first_history : ℕ → List ℕ → List Entry
first_history moment bytes = settings_entry 1 (record { 0 = moment }) bytes ∷ []
