-- What becomes of a history where settings come into force, and what a start makes of it.
use Rattle.std.proofs.Common.{◌≡◌, ◌≢◌, ℕ, Bool, true, false, List, [], ◌∷◌, ◌++◌, Some, None, Result, Ok, Err, refl, sym, subst, ◌∙◌, inl, inr}
use Rattle.std.specs.Prelude.{Option, OnOk, IfErr}
use Rattle.std.specs.List.{find}
use Rattle.std.specs.Option.{ForSome, option_and_then}
use Rattle.std.proofs.lemmas.List.{reverse-append}
use Rattle.plant.specs.Plant.{PlantTold}
use Rattle.plant.specs.Clock.{ClockTold, Reads}
use Rattle.plant.specs.Stops.{Stops}
use Rattle.plant.specs.Joining.{Stays}
use Rattle.journal_core.specs.Journal.{IsJournal}
use Rattle.gate_entries.specs.declared.entry.What.{What}
use Rattle.gate_entries.specs.declared.entry.What.TheVariants as whats
use Rattle.gate_entries.specs.declared.entry.Entry.{Entry}
use Rattle.gate_machine.specs.declared.place.Place.{Place}
use Rattle.gate_machine.specs.declared.answer.Answer.{Answer}
use Rattle.gate_machine.specs.declared.answer.Answer.TheVariants.{Write}
use Rattle.gate_machine.specs.Answer.{HasRoom, IsInRange}
use Rattle.gate_machine.specs.Commands.Settings.{AreInForce}
use Rattle.gate_machine.specs.History.{payloads_of, Legal}
use Rattle.gate_machine.specs.Move.{Held, Holds, Waits, IsSound, Settles, Extends}
use Rattle.gate_machine.specs.Renewal.{renewal_at, renewal_of}
use Rattle.gate_machine.specs.Sight.{place_of}
use Rattle.gate_engine.specs.declared.fault.StartFault.{StartFault}
use Rattle.gate_engine.specs.declared.fault.StartFault.TheVariants as starts
use Rattle.gate_engine.specs.Engine.{IsOutside}
use Rattle.gate_engine.specs.Kept.{Stands}
use Rattle.gate_engine.specs.Start.{renewal, KeepsDisk, Starts, Started, RenewedAt, Renewed, UnrenewedAt, Fails, Unrenewed, RefusesStart}
use Rattle.gate_engine.proofs.Kept.{extends_same, extends_on}
use Rattle.gate_engine.proofs.Recovery.{extends_settled}

-- ---- an entry of settings

abbrev is_settings : What → Bool
is_settings (whats.Settings bytes) = true
is_settings what = false

abbrev bytes_in : What → Option (List ℕ)
bytes_in (whats.Settings bytes) = Some bytes
bytes_in what = None

-- the settings of the last entry are in force
in_force_behind : (history : List Entry) (place : Place) (settings : List ℕ) → AreInForce settings (history ++ renewal_at place settings ∷ [])
in_force_behind history place settings =
    subst (λ (l : List Entry). option_and_then (λ entry. bytes_in entry.what) (find (λ entry. is_settings entry.what) l) ≡ Some settings)
    (sym (reverse-append history (renewal_at place settings ∷ []))) refl

-- the entry that is written is that of the settings, and there is room
pub writes : (history : List Entry) (reading : ℕ) (settings : List ℕ) (entry : Entry) → renewal_of history reading settings (Write entry)
    → (entry ≡ renewal settings history reading) × HasRoom history (renewal settings history reading)
writes history reading settings entry answers = elim answers [
  | inl fits ↦ (cc fits.1, fits.0)
  | inr full ↦ cc full.1
]

-- what isn't written had no room
pub is_full : (history : List Entry) (reading : ℕ) (settings : List ℕ) (answer : Answer) → renewal_of history reading settings answer
    → ((entry : Entry) → answer ≢ Write entry) → ¬ (HasRoom history (renewal settings history reading))
is_full history reading settings answer answers other = elim answers [
  | inl fits ↦ absurd (other (renewal settings history reading) fits.1)
  | inr full ↦ full.0
]

-- ---- the history behind it

pub extends_held : (history : List Entry) (new : Held) → Holds new history → Extends history new.history
extends_held history new held = subst (λ (h : List Entry). Extends history h) (sym held.0) (extends_same history)

pub extends_added : (history : List Entry) (entry : Entry) (new : Held) → Holds new (history ++ entry ∷ []) → Extends history new.history
extends_added history entry new held = (entry ∷ [], held.0)

pub extends_waiting : (history : List Entry) (entry : Entry) (new : Held) → Waits history entry new → Extends history new.history
extends_waiting history entry new waits = subst (λ (h : List Entry). Extends history h) (sym waits.same) (extends_same history)

-- ---- the clock was read

module _ (settings : List ℕ) (found : List Entry) (clock clock' : ClockTold) (reading : ℕ) (new : Held) (reads : Reads clock clock' (Some reading))
    (in_range : IsInRange reading) where
  pub renewed_on : ¬ (AreInForce settings found) → (result : Result (Unit {0}) StartFault) → OnOk result (RenewedAt settings found reading new)
      → OnOk result (Renewed settings found clock clock' new)
  renewed_on other (Ok done) renewed = record { other = other; reading = reading; reads = reads; in_range = in_range; renewed = renewed }
  renewed_on other (Err fault) renewed = tt

  pub fails_on : (result : Result (Unit {0}) StartFault) → IfErr result (λ fault. UnrenewedAt settings found reading fault new)
      → IfErr result (λ fault. Fails settings found clock clock' fault new)
  fails_on (Ok done) fails = tt
  fails_on (Err fault) fails = inr (inr (record { reading = reading; reads = reads; in_range = in_range; fails = fails }))

pub refused_on : (settings : List ℕ) (found : List Entry) (clock clock' : ClockTold) (new : Held) → ¬ (AreInForce settings found)
    → (result : Result (Unit {0}) StartFault) → IfErr result (λ fault. Fails settings found clock clock' fault new)
    → IfErr result (λ fault. Unrenewed settings found clock clock' fault new)
refused_on settings found clock clock' new other (Ok done) fails = tt
refused_on settings found clock clock' new other (Err fault) fails = record { other = other; fails = fails }

-- ---- a start

module _ (settings : List ℕ) (found : List Entry) (told mid told' : PlantTold) (first then last : Stops) (clock clock' : ClockTold) where
  pub in_force : (new : Held) → Starts settings found told told' first last clock clock' new → AreInForce settings new.history
  in_force new starts = elim starts [
    | inl same ↦ subst (λ (h : List Entry). AreInForce settings h) (sym same.held.0) same.same
    | inr other ↦ subst (λ (h : List Entry). AreInForce settings h) (sym other.renewed.held.0) (in_force_behind found (place_of found other.reading) settings)
  ]

  pub settled : (new : Held) → Starts settings found told told' first last clock clock' new → new.loose ≡ None
  settled new starts = elim starts [
    | inl same ↦ same.held.1
    | inr other ↦ other.renewed.held.1
  ]

  -- the disk was mounted before
  pub keeps_disk_on : mid.disk.bytes ≡ told.disk.bytes → (Stays then last → Stays first last) → KeepsDisk mid told' then last → KeepsDisk told told' first last
  keeps_disk_on bytes on keeps = record { bytes = keeps.bytes ∙ bytes; stays = on keeps.stays }

  starts_on : mid.disk.bytes ≡ told.disk.bytes → (Stays then last → Stays first last) → (new : Held) → Starts settings found mid told' then last clock clock' new
      → Starts settings found told told' first last clock clock' new
  starts_on bytes on new starts = elim starts [
    | inl same ↦ inl (record { same = same.same; unread = same.unread; held = same.held; keeps = keeps_disk_on bytes on same.keeps })
    | inr other ↦ inr other
  ]

  pub started_of : Legal found → ForSome told.disk.bytes (λ bytes. IsJournal (payloads_of found) bytes)
      → ForSome told.disk.bytes (λ bytes. (before : Held) → IsSound before → Stands before first → Settles before found)
      → mid.disk.bytes ≡ told.disk.bytes → (Stays then last → Stays first last) → (new : Held) → Starts settings found mid told' then last clock clock' new
      → Started settings told told' first last clock clock' new
  started_of legal journal settles bytes on new starts = record {
    found = found;
    legal = legal;
    journal = journal;
    settles = settles;
    starts = starts_on bytes on new starts;
  }

  pub refused_of : Legal found → ForSome told.disk.bytes (λ bytes. IsJournal (payloads_of found) bytes) → (fault : StartFault) (new : Held)
      → Unrenewed settings found clock clock' fault new → RefusesStart settings told.disk.bytes clock clock' fault
  refused_of legal journal fault new unrenewed = inr (record { found = found; legal = legal; journal = journal; new = new; unrenewed = unrenewed })

-- what was found begins with the history that a gate left
pub begins_on : (before : Held) (found now : List Entry) → Settles before found → Extends found now → Extends before.history now
begins_on before found now settles extends = extends_on before.history found now (extends_settled before found settles) extends

unwritten_outside : (settings : List ℕ) (found : List Entry) (reading : ℕ) (fault : StartFault) (new : Held) → UnrenewedAt settings found reading fault new → IsOutside fault
unwritten_outside settings found reading starts.Disk new fails = tt
unwritten_outside settings found reading starts.NotBegun new fails = absurd fails
unwritten_outside settings found reading (starts.JournalBad at) new fails = absurd fails
unwritten_outside settings found reading starts.Clock new fails = tt
unwritten_outside settings found reading (starts.ClockRange given) new fails = tt
unwritten_outside settings found reading starts.Full new fails = tt
unwritten_outside settings found reading starts.NoMemory new fails = tt

-- settings that did not come into force say nothing against the journal
pub outside_unrenewed : (settings : List ℕ) (found : List Entry) (clock clock' : ClockTold) (fault : StartFault) (new : Held)
    → Unrenewed settings found clock clock' fault new → IsOutside fault
outside_unrenewed settings found clock clock' fault new unrenewed = elim unrenewed.fails [
  | inl unread ↦ subst IsOutside (sym unread.told) tt
  | inr other ↦ elim other [
    | inl misread ↦ subst IsOutside (sym misread.told) tt
    | inr unwritten ↦ unwritten_outside settings found unwritten.reading fault new unwritten.fails
  ]
]
