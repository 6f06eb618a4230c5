-- Which bytes are refused as no journal, and why.
use Rattle.std.specs.Prelude.{◌≡◌, ◌≢◌, ℕ, ◌<◌, ◌≤◌, ◌⊎◌, List, ◌∷◌, ◌++◌, length, take}
use Rattle.std.specs.List.{AllByRecursion}
use Rattle.journal_core.specs.Journal.{head, no_chain, most_bytes, opened, IsPayload, BreaksAt}
use Rattle.journal_core.specs.declared.fault.MountFault.{MountFault}
use Rattle.journal_core.specs.declared.fault.MountFault.TheVariants.{NotBegun, BadHead, TooLong, Disk, NoMemory}

-- the bytes begin with the head and have a gate behind it
pub record IsBegun (bytes : List ℕ) : Type 0 where
  pub begins : take 16 bytes ≡ head
  pub gate : 17 ≤ length bytes

-- the first of these that holds of the bytes: they aren't begun, they are too long, they break off.
-- Memory is wanted only for bytes that are begun and aren't too long
abbrev pub Refuses : MountFault → List ℕ → Type 0
Refuses NotBegun bytes = (length bytes < 17) ⊎ (take 16 bytes ≢ head)
Refuses (TooLong count) bytes = IsBegun bytes × (count ≡ length bytes) × (most_bytes < length bytes)
Refuses (BadHead at) bytes = (length bytes ≤ most_bytes) × BreaksAt bytes at
Refuses Disk bytes = Unit {0}
Refuses NoMemory bytes = IsBegun bytes × (length bytes ≤ most_bytes)

-- behind the head the bytes are these groups, and then a gate that isn't open
pub record EndsShut (payloads : List (List ℕ)) (bytes : List ℕ) : Type 0 where
  pub gate : ℕ
  pub rest : List ℕ
  pub whole : bytes ≡ opened no_chain payloads ++ gate ∷ rest
  pub shut : gate ≢ 1
  pub each : AllByRecursion IsPayload payloads

-- `Refuses` of what stands behind the head
abbrev pub RefusesRest : MountFault → List ℕ → Type 0
RefusesRest NotBegun rest = ⊥
RefusesRest (TooLong count) rest = ⊥
RefusesRest (BadHead at) rest = BreaksAt (head ++ rest) at
RefusesRest Disk rest = ⊥
RefusesRest NoMemory rest = Unit {0}

-- a fault of the disk or of the memory, which says nothing of the bytes
abbrev pub IsOutside : MountFault → Type 0
IsOutside NotBegun = ⊥
IsOutside (TooLong count) = ⊥
IsOutside (BadHead at) = ⊥
IsOutside Disk = Unit {0}
IsOutside NoMemory = Unit {0}
