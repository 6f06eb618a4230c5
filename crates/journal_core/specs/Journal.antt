-- What bytes are a journal: a head, and then groups, each behind a gate; the first gate that is closed ends it.
use Rattle.std.specs.Prelude.{◌≡◌, ◌≢◌, ℕ, ◌+◌, ◌<◌, ◌≤◌, ◌⊎◌, Bool, false, List, [], ◌∷◌, ◌++◌, length, take, drop, codes, replicate}
use Rattle.std.specs.List.{sum_by, AllByRecursion}
use Rattle.std.specs.Int.{w32, to_be_bytes, from_be_bytes}
use Rattle.sha2.specs.Sha256.{sha256}

-- the line that a journal begins with, 16 bytes
unfoldable pub head : List ℕ
head = codes "gate journal 01" ++ 10 ∷ []

-- the most bytes of a file
abbrev pub most_bytes : ℕ
most_bytes = 67108864

-- a payload has a byte, and at most 1,114,112
pub record IsPayload (payload : List ℕ) : Type 0 where
  pub some : 1 ≤ length payload
  pub fits : length payload ≤ 1114112

-- the chain before the first group: 32 zeros
unfoldable pub no_chain : List ℕ
no_chain = replicate 32 0

-- the chain of a group: SHA-256 (FIPS 180-4, 6.2) of the chain before it and its payload
abbrev pub chained : List ℕ → List ℕ → List ℕ
chained chain payload = sha256 (chain ++ payload)

-- the chain of the last of some groups
abbrev pub chain_after : List ℕ → List (List ℕ) → List ℕ
chain_after chain [] = chain
chain_after chain (payload ∷ payloads) = chain_after (chained chain payload) payloads

-- a group: four bytes of length, high byte first, its chain, and the payload
unfoldable pub group : List ℕ → List ℕ → List ℕ
group chain payload = to_be_bytes w32 (length payload) ++ (chained chain payload ++ payload)

-- groups one after another, each behind an open gate, which is a byte 1
abbrev pub opened : List ℕ → List (List ℕ) → List ℕ
opened chain [] = []
opened chain (payload ∷ payloads) = 1 ∷ (group chain payload ++ opened (chained chain payload) payloads)

-- the bytes that the group of a payload takes, its gate included, by the payload's length
abbrev pub group_total : ℕ → ℕ
group_total count = 37 + count

abbrev pub total_of : List ℕ → ℕ
total_of payload = group_total (length payload)

-- the place of the gate behind some groups
abbrev pub gate_place : List (List ℕ) → ℕ
gate_place payloads = 16 + sum_by total_of payloads

-- so many bytes more, and a closed gate behind them, fit in a file whose closed gate is at this place
abbrev pub HasRoom : ℕ → ℕ → Type 0
HasRoom at total = at + total + 1 ≤ most_bytes

-- the journal of one payload, as it is begun
unfoldable pub begun_of : List ℕ → List ℕ
begun_of payload = head ++ 1 ∷ (group no_chain payload ++ 0 ∷ [])

-- the bytes are the journal of these payloads: groups behind open gates, up to the first gate that isn't 1, and no more
-- than 67,108,864. Behind that gate anything may stand
pub record IsJournal (payloads : List (List ℕ)) (bytes : List ℕ) : Type 0 where
  pub gate : ℕ
  pub rest : List ℕ
  pub whole : bytes ≡ head ++ (opened no_chain payloads ++ gate ∷ rest)
  pub shut : gate ≢ 1
  pub each : AllByRecursion IsPayload payloads
  pub fits : length bytes ≤ most_bytes

-- the four bytes at the front, high byte first, as a number
abbrev pub length_at_front : List ℕ → ℕ
length_at_front bytes = from_be_bytes w32 (take 4 bytes)

-- behind an open gate no group stands: none lies whole in the bytes with a gate behind it, or its length is that of no
-- payload, or its chain is not that of the chain before and its payload
abbrev pub LacksGroup : List ℕ → List ℕ → Type 0
LacksGroup chain bytes = (length bytes < 37 + length_at_front bytes)
    ⊎ (length_at_front bytes < 1) ⊎ (1114112 < length_at_front bytes)
    ⊎ (take 32 (drop 4 bytes) ≢ chained chain (take (length_at_front bytes) (drop 36 bytes)))

-- the bytes are groups up to this place, and the gate there is open before no group
pub record BreaksAt (bytes : List ℕ) (at : ℕ) : Type 0 where
  pub payloads : List (List ℕ)
  pub rest : List ℕ
  pub whole : bytes ≡ head ++ (opened no_chain payloads ++ 1 ∷ rest)
  pub each : AllByRecursion IsPayload payloads
  pub place : at ≡ gate_place payloads
  pub lacks : LacksGroup (chain_after no_chain payloads) rest

-- a mounted journal: the place of its closed gate, the chain of its last group, the longest payload that there is room for,
-- and whether an append failed
pub record JournalState : Type 0 where
  pub at : ℕ
  pub chain : List ℕ
  pub spare : ℕ
  pub broken : Bool

-- as it is mounted from the journal of these payloads
abbrev pub mounted_of : List (List ℕ) → JournalState
mounted_of payloads = record { at = gate_place payloads; chain = chain_after no_chain payloads; spare = 0; broken = false }

-- the bytes are the journal of these payloads, and the mounted one has its place and its chain
pub record HasJournal (journal : JournalState) (payloads : List (List ℕ)) (bytes : List ℕ) : Type 0 where
  pub is : IsJournal payloads bytes
  pub place : journal.at ≡ gate_place payloads
  pub linked : journal.chain ≡ chain_after no_chain payloads
