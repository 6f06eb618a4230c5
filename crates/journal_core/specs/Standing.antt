-- A journal over a disk of which a stop may leave one image or another.
use Rattle.std.specs.Prelude.{◌≡◌, ℕ, ◌+◌, ◌⊎◌, List, [], ◌∷◌, ◌++◌, length, Option, Some, None}
use Rattle.plant.specs.Plant.{overwritten}
use Rattle.plant.specs.Stops.{Stops, LeftNow, LeftSince}
use Rattle.plant.specs.Joining.{Joins}
use Rattle.plant.specs.Tearing.{Torn}
use Rattle.journal_core.specs.Journal.{IsJournal, JournalState, HasJournal}

-- each image that a stop now may leave is the journal of these payloads, at the mounted one's place and with its chain
abbrev pub Stands : Stops → JournalState → List (List ℕ) → Type 0
Stands stops journal payloads = (image : List ℕ) (sent : List (List ℕ)) → LeftNow stops image sent
    → HasJournal journal payloads image

-- each pair that a stop since the start may have left has the list of one that it could leave then
pub record KeepsSent (old new : Stops) : Type 0 where
  pub joins : Joins old new
  pub each : (image : List ℕ) (sent : List (List ℕ)) → LeftSince old new image sent
      → (before : List ℕ) × LeftNow old before sent

-- The piece is written behind the gate at this place, and then the gate. Since the start a stop may leave what it
-- could leave then, with the range behind the gate torn, or the bytes as a read gave them with the whole piece behind
-- a torn gate.
pub record Commits (at : ℕ) (piece : List ℕ) (bytes : Option (List ℕ)) (old new : Stops) : Type 0 where
  pub keeps : KeepsSent old new
  pub each : (image : List ℕ) (sent : List (List ℕ)) → LeftSince old new image sent
      → ((before : List ℕ) × LeftNow old before sent × Torn (at + 1) (length piece) before image)
      ⊎ ((was : List ℕ) × (bytes ≡ Some was) × ((gate : ℕ) × (image ≡ overwritten was at (gate ∷ piece))))

-- The same of the bytes that a read gives after a fault, where they are told: the range behind the gate is torn, or the
-- whole piece stands behind a torn gate.
abbrev pub TornCommit : ℕ → List ℕ → Option (List ℕ) → Option (List ℕ) → Type 0
TornCommit at piece None None = Unit {0}
TornCommit at piece (Some before) (Some bytes) = Torn (at + 1) (length piece) before bytes
    ⊎ ((gate : ℕ) × (bytes ≡ overwritten before at (gate ∷ piece)))
TornCommit at piece None (Some bytes) = ⊥
TornCommit at piece (Some before) None = ⊥

-- Since the start of an append to a journal of some payloads a stop may leave the journal of these, or of these and the
-- new one, and the list that it could leave then.
pub record MayAppend (payload : List ℕ) (journal : JournalState) (old new : Stops) : Type 0 where
  pub keeps : KeepsSent old new
  pub either : (payloads : List (List ℕ)) → Stands old journal payloads
      → (image : List ℕ) (sent : List (List ℕ)) → LeftSince old new image sent
      → IsJournal payloads image ⊎ IsJournal (payloads ++ payload ∷ []) image

-- a stop now leaves no bytes but these
abbrev pub LeavesOnly : List ℕ → Stops → Type 0
LeavesOnly bytes stops = (image : List ℕ) (sent : List (List ℕ)) → LeftNow stops image sent → image ≡ bytes
