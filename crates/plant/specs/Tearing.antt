-- What a write may leave on the disk before a sync makes it durable.
use Rattle.std.specs.Prelude.{◌≡◌, ℕ, ◌+◌, ◌≤◌, max, List, length, take, drop, Option, Some, None}

-- any bytes in the range and past the old end, and the same elsewhere: at least as long as before, and at most as long as
-- the greater of the old end and the range's
pub record Torn (at count : ℕ) (before image : List ℕ) : Type 0 where
  pub front : take at image ≡ take at before
  pub back : drop (at + count) image ≡ drop (at + count) before
  pub no_shorter : length before ≤ length image
  pub no_longer : length image ≤ max (length before) (at + count)

-- the same of bytes that are told or not
abbrev pub TornTold : ℕ → ℕ → Option (List ℕ) → Option (List ℕ) → Type 0
TornTold at count None None = Unit {0}
TornTold at count (Some before) (Some image) = Torn at count before image
TornTold at count None (Some image) = ⊥
TornTold at count (Some before) None = ⊥
