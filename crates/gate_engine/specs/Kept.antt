-- What recovery finds after a stop, whenever the stop comes.
use Rattle.std.specs.Prelude.{◌≡◌, ◌≤◌, ◌⊎◌, ℕ, List, [], ◌∷◌, ◌++◌, Option, Some, None}
use Rattle.plant.specs.Plant.{PlantTold}
use Rattle.plant.specs.Stops.{Stops, LeftNow, LeftSince}
use Rattle.plant.specs.Joining.{Joins}
use Rattle.journal_core.specs.Journal.{IsJournal}
use Rattle.gate_entries.specs.declared.entry.Entry.{Entry}
use Rattle.gate_machine.specs.History.{payloads_of, Legal}
use Rattle.gate_machine.specs.Sends.{Within}
use Rattle.gate_machine.specs.Move.{Held, Extends}
use Rattle.gate_machine.specs.Step.{bodies_of}

-- the image is the journal of the history, or of the history and what is loose
abbrev pub IsImageOf : List Entry → Option Entry → List ℕ → Type 0
IsImageOf history None image = IsJournal (payloads_of history) image
IsImageOf history (Some entry) image = IsJournal (payloads_of history) image ⊎ IsJournal (payloads_of (history ++ entry ∷ [])) image

-- each image that a stop now may leave is one of this history
abbrev pub Stands : Held → Stops → Type 0
Stands held stops = (image : List ℕ) (sent : List (List ℕ)) → LeftNow stops image sent → IsImageOf held.history held.loose image

-- each body that the signer was sent has an entry of its own in the history
abbrev pub IsSentOf : List Entry → Stops → Type 0
IsSentOf history stops = (image : List ℕ) (sent : List (List ℕ)) → LeftNow stops image sent → Within sent (bodies_of history)

-- so it still would be if the signer were sent this body
abbrev pub MayBeSent : List ℕ → List Entry → Stops → Type 0
MayBeSent body history stops = (image : List ℕ) (sent : List (List ℕ)) → LeftNow stops image sent → Within (sent ++ body ∷ []) (bodies_of history)

-- Whatever a stop now leaves, recovery finds the history, or the history and what is loose, and each body that the signer was sent
-- has an entry of its own in the history.
pub record Kept (held : Held) (stops : Stops) : Type 0 where
  pub stands : Stands held stops
  pub recorded : IsSentOf held.history stops

-- the history, and what is loose behind it
abbrev pub whole_of : List Entry → Option Entry → List Entry
whole_of history None = history
whole_of history (Some entry) = history ++ entry ∷ []

-- recovery finds a history that begins with this one, and that the gate's history with what is loose begins with; each body that
-- the signer was sent has an entry of its own in it, if what is given here held at the start
pub record FindsBetween (Given : Type 0) (before : List Entry) (new : Held) (image : List ℕ) (sent : List (List ℕ)) : Type 0 where
  pub history : List Entry
  pub begins : Extends before history
  pub ends : Extends history (whole_of new.history new.loose)
  pub journal : IsJournal (payloads_of history) image
  pub recorded : Given → Within sent (bodies_of history)

-- so it is of each pair that a stop since the old state may have left, and the gate's history with what is loose begins with this one
pub record KeepsBetween (Given : Type 0) (before : List Entry) (new : Held) (old now : Stops) : Type 0 where
  pub joins : Joins old now
  pub on : Extends before (whole_of new.history new.loose)
  pub each : (image : List ℕ) (sent : List (List ℕ)) → LeftSince old now image sent → FindsBetween Given before new image sent

-- What a call keeps of the plant and of the history: recovery finds the gate's history now, and one between the old and the new at
-- each stop since the start; in it what the signer was sent, if what is given here held. The disk's count of faults doesn't fall.
pub record Keeps (Given : Type 0) (before : List Entry) (told told' : PlantTold) (stops stops' : Stops) (new : Held) : Type 0 where
  pub stands : Stands new stops'
  pub recorded : Given → IsSentOf new.history stops'
  pub since : KeepsBetween Given before new stops stops'
  pub later : told.disk.faults ≤ told'.disk.faults

-- Recovery finds a legal history: the old one, or this and what was loose, or one that begins with the old one and that the new
-- one with what is loose begins with; each body that the signer was sent has an entry of its own in it, if so it was at the start.
pub record FindsLegal (Given : Type 0) (old new : Held) (image : List ℕ) (sent : List (List ℕ)) : Type 0 where
  pub history : List Entry
  pub legal : Legal history
  pub from : (history ≡ whole_of old.history old.loose) ⊎ (Extends old.history history × Extends history (whole_of new.history new.loose))
  pub journal : IsJournal (payloads_of history) image
  pub recorded : Given → Within sent (bodies_of history)

-- so it is of each pair that a stop since the old state may have left
pub record KeepsLegal (Given : Type 0) (old new : Held) (stops stops' : Stops) : Type 0 where
  pub joins : Joins stops stops'
  pub each : (image : List ℕ) (sent : List (List ℕ)) → LeftSince stops stops' image sent → FindsLegal Given old new image sent
