-- What the rules on fields share: retry keys, and the least rule that is broken.
use Rattle.std.specs.Prelude.{◌≡◌, ℕ, ◌≤◌, List, length, Bool, IsFalse, nat_lt, nat_le, ◌&&◌, Option, Some, None}
use Rattle.std.specs.List.{list_all}

-- ---- retry keys

-- a printable ASCII character other than the blank
abbrev pub is_key_byte : ℕ → Bool
is_key_byte byte = nat_le 33 byte && nat_le byte 126

-- a retry key has 1 to 64 of them
abbrev pub is_key : List ℕ → Bool
is_key key = nat_lt 0 (length key) && nat_le (length key) 64 && list_all is_key_byte key

abbrev pub HasBadKey : List ℕ → Type 0
HasBadKey key = IsFalse (is_key key)

-- F01 alone
abbrev pub KeyBreaks : List ℕ → ℕ → Type 0
KeyBreaks key rule = (rule ≡ 1) × HasBadKey key

-- ---- the least rule

-- the least number of a rule that is broken
pub record IsLeast (breaks : ℕ → Type 0) (rule : ℕ) : Type 0 where
  pub broken : breaks rule
  pub least : (other : ℕ) → breaks other → rule ≤ other

abbrev pub TellsLeast : (ℕ → Type 0) → Option ℕ → Type 0
TellsLeast breaks (Some rule) = IsLeast breaks rule
TellsLeast breaks None = (rule : ℕ) → ¬ (breaks rule)
