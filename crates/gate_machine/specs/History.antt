-- What a history is: entries that each may follow those before it.
use Rattle.std.specs.Prelude.{◌≡◌, ◌≢◌, ℕ, ◌+◌, ◌≤◌, List, [], ◌∷◌, ◌++◌, length, map}
use Rattle.gate_entries.specs.declared.entry.Entry.{Entry}
use Rattle.gate_entries.specs.declared.entry.What.{What}
use Rattle.gate_entries.specs.declared.entry.What.TheVariants.{Settings, Order, Challenge, Observation, CaaAnswer, Send, Signed, Blocked}
use Rattle.gate_entries.specs.Spelling.{entry_bytes, IsEntry}
use Rattle.journal_core.specs.Journal.{gate_place, total_of}
use Rattle.gate_base.specs.declared.moment.Moment.{Moment}
use Rattle.gate_machine.specs.declared.place.Place.{Place}
use Rattle.gate_machine.specs.Sight.{moment_of}
use Rattle.gate_machine.specs.Commands.Settings.{SettingsCome}
use Rattle.gate_machine.specs.Commands.Order.{OrderComes}
use Rattle.gate_machine.specs.Commands.Observe.{ObservationComes}
use Rattle.gate_machine.specs.Commands.ObserveCaa.{CaaComes}
use Rattle.gate_machine.specs.Commands.Block.{BlockComes}
use Rattle.gate_machine.specs.Commands.Finalize.{ComesToSigner, ComesSigned}
pub use Rattle.gate_machine.specs.Commands.Finalize.{IsSignature}

-- the first and the last moment that a clock may give: 2025-09-15T00:00:00Z and 2099-12-31T23:59:59Z
abbrev pub first_moment : ℕ
first_moment = 1757894400

abbrev pub last_moment : ℕ
last_moment = 4102444799

-- what each kind asks of the entries before it; all but settings come behind other entries. Challenges have no place in a history as
-- yet, and so no observation has one either
abbrev pub MeetsRow : List Entry → List ℕ → Moment → What → Type 0
MeetsRow before caller moment (Settings bytes) = SettingsCome before caller bytes
MeetsRow before caller moment (Order key common days targets request) = OrderComes before caller key common days targets request
MeetsRow before caller moment (Challenge key order method target value thumb) = ⊥
MeetsRow before caller moment (Observation key challenge seen_at seen) = ObservationComes before caller moment key challenge seen_at
MeetsRow before caller moment (CaaAnswer key order target seen_at answers) = CaaComes before caller moment key order target seen_at
MeetsRow before caller moment (Blocked key spki) = BlockComes before caller key spki
MeetsRow before caller moment (Send order body) = ComesToSigner before caller order body
MeetsRow before caller moment (Signed order signature) = ComesSigned before caller moment order signature

-- an entry's number and moment are right behind these
pub record IsInOrder (before : List Entry) (entry : Entry) : Type 0 where
  pub numbered : entry.number ≡ length before + 1
  pub later : moment_of before ≤ entry.moment.0
  pub begun : first_moment ≤ entry.moment.0
  pub ended : entry.moment.0 ≤ last_moment

-- a place for one entry more: its number is the next, at a moment that may stand there
pub record IsNextPlace (before : List Entry) (place : Place) : Type 0 where
  pub numbered : place.number ≡ length before + 1
  pub later : moment_of before ≤ place.moment.0
  pub begun : first_moment ≤ place.moment.0
  pub ended : place.moment.0 ≤ last_moment

-- an entry may come behind these
pub record Follows (before : List Entry) (entry : Entry) : Type 0 where
  pub spelled : IsEntry entry
  pub in_order : IsInOrder before entry
  pub row : MeetsRow before entry.caller entry.moment entry.what

-- entries that each may come behind those before it
abbrev pub EachFollows : List Entry → List Entry → Type 0
EachFollows before [] = Unit {0}
EachFollows before (entry ∷ entries) = Follows before entry × EachFollows (before ++ entry ∷ []) entries

pub record Legal (history : List Entry) : Type 0 where
  pub some : history ≢ []
  pub each : EachFollows [] history

-- what the groups of a history's journal hold
abbrev pub payloads_of : List Entry → List (List ℕ)
payloads_of history = map entry_bytes history

-- the place of the closed gate in a history's journal, and the bytes that an entry's group takes
abbrev pub journal_place : List Entry → ℕ
journal_place history = gate_place (payloads_of history)

abbrev pub entry_total : Entry → ℕ
entry_total entry = total_of (entry_bytes entry)
