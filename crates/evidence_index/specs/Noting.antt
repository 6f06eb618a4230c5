-- What an index keeps, and which entries may be noted.
use Rattle.std.specs.Prelude.{◌≡◌, ℕ, ◌+◌, ◌-◌, ◌<◌, ◌≤◌, ◌^◌, ◌⊎◌, Bool, true, false, ◌&&◌, IsTrue, nat_eq, List, [], length, slice_get}
use Rattle.std.specs.List.{list_any, AllByRecursion}
use Rattle.std.specs.Option.{option_map_or, IsSomeAnd}
use Rattle.gate_settings.specs.Meaning.{IsReadable}
use Rattle.gate_entries.specs.declared.entry.Entry.{Entry}
use Rattle.gate_entries.specs.declared.entry.What.{What}
use Rattle.gate_entries.specs.declared.entry.What.TheVariants as whats
use Rattle.evidence_index.specs.Lookups.{is_settings, is_challenge, seen_at_in}

-- the entries that were noted, and those for which there is room, in the order in which they may be noted
pub record Noted : Type 0 where
  pub entries : List Entry
  pub room : List Entry

-- ---- room

-- a signature's entry that is the other but for the signature, which isn't longer
abbrev pub IsShorterSignature : What → What → Type 0
IsShorterSignature (whats.Signed order signature) (whats.Signed other kept) = (order ≡ other) × (length signature ≤ length kept)
IsShorterSignature _ _ = ⊥

pub record IsSignedAs (entry kept : Entry) : Type 0 where
  pub number : entry.number ≡ kept.number
  pub moment : entry.moment ≡ kept.moment
  pub caller : entry.caller ≡ kept.caller
  pub what : IsShorterSignature entry.what kept.what

-- the entry has the room that was made for this one
abbrev pub FitsRoom : Entry → Entry → Type 0
FitsRoom entry kept = (entry ≡ kept) ⊎ IsSignedAs entry kept

-- the first of the room is for the entry
abbrev pub HasRoomFor : List Entry → Entry → Type 0
HasRoomFor room entry = IsSomeAnd (slice_get room 0) (FitsRoom entry)

-- ---- which entries may come next

abbrev pub is_order : What → Bool
is_order (whats.Order key common days targets request) = true
is_order what = false

-- an entry with this number that passes stands among these
abbrev pub stands : (What → Bool) → ℕ → List Entry → Bool
stands test number entries = list_any (λ entry. nat_eq entry.number number && test entry.what) entries

-- what the entry speaks of stands before it; settings are readable
abbrev pub IsGrounded : List Entry → What → Type 0
IsGrounded noted (whats.Settings bytes) = IsReadable bytes
IsGrounded noted (whats.Challenge key order method target value thumb) = IsTrue (stands is_order order noted)
IsGrounded noted (whats.Observation key challenge seen_at seen) = IsTrue (stands is_challenge challenge noted)
IsGrounded noted (whats.CaaAnswer key order target seen_at answers) = IsTrue (stands is_order order noted)
IsGrounded noted what = Unit {0}

-- the moment of the last entry
abbrev pub last_moment : List Entry → ℕ
last_moment entries = option_map_or (λ entry. entry.moment.0) (slice_get entries (length entries - 1)) 0

-- what a perspective saw it saw before the year 36,000
abbrev pub IsEarly : What → Type 0
IsEarly what = seen_at_in what < 2 ^ 40

-- the entry comes next in a history that begins with settings: its number is the next, and its moment isn't before the last
pub record IsNext (noted : List Entry) (entry : Entry) : Type 0 where
  pub few : length noted + 1 < 2 ^ 32
  pub number : entry.number ≡ length noted + 1
  pub later : last_moment noted ≤ entry.moment.0
  pub moment : entry.moment.0 < 2 ^ 40
  pub early : IsEarly entry.what
  pub first : noted ≡ [] → IsTrue (is_settings entry.what)
  pub grounded : IsGrounded noted entry.what

-- ---- what every noted entry keeps

-- settings are readable
abbrev pub IsReadableIn : What → Type 0
IsReadableIn (whats.Settings bytes) = IsReadable bytes
IsReadableIn what = Unit {0}

pub record IsSound (entry : Entry) : Type 0 where
  pub readable : IsReadableIn entry.what
  pub early : IsEarly entry.what

abbrev pub AreSound : List Entry → Type 0
AreSound entries = AllByRecursion IsSound entries
