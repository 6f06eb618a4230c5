-- Which lists of network perspectives are a panel for multi-perspective issuance corroboration (BR 2.1.5, section 3.2.2.9).
-- The numbers are this project's own. Places are in whole kilometres from the centre of the earth.
use Rattle.std.specs.Prelude.{◌≡◌, ℕ, ◌+◌, ◌*◌, ◌<◌, ◌≤◌, Bool, ◌&&◌, not, List, length, ℤ, Some, IsSomeAnd, IsTrue, slice_get, count_by, nat_le, unsigned_abs}
use Rattle.std.proofs.Common.{◌-ℤ◌}
use Rattle.std.specs.List.{AllPass, position}
use Rattle.perspectives.specs.declared.perspective.Perspective.{Perspective}
use Rattle.perspectives.specs.declared.fault.PanelFault.{PanelFault}
use Rattle.perspectives.specs.declared.fault.PanelFault.TheVariants.{TooMany, NoPrimary, TwicePrimary, TwiceNamed, BadPlace, TooNear, NoMemory}
use Rattle.perspectives.specs.declared.rules.Conflict.{Conflict}
use Rattle.perspectives.specs.declared.rules.Conflict.TheVariants.{Name, Place}

-- how many members call themselves the primary
abbrev pub primary_count : List Perspective → ℕ
primary_count members = count_by (λ p. p.primary) members

-- it is a member that calls itself the primary
pub record IsPrimaryOf (members : List Perspective) (p : Perspective) : Type 0 where
  pub place : ℕ
  pub here : slice_get members place ≡ Some p
  pub is : IsTrue p.primary

-- no other member calls itself the primary
pub record HasNoOther (members : List Perspective) (p : Perspective) : Type 0 where
  pub same : (other : Perspective) → IsPrimaryOf members other → other ≡ p

-- each coordinate is from -20,000 to 20,000
abbrev pub is_placed : Perspective → Bool
is_placed p = nat_le (unsigned_abs p.x) 20000 && (nat_le (unsigned_abs p.y) 20000 && nat_le (unsigned_abs p.z) 20000)

-- the square of how far two coordinates are apart
abbrev pub squared_gap : ℤ → ℤ → ℕ
squared_gap a b = unsigned_abs (a -ℤ b) * unsigned_abs (a -ℤ b)

-- the square of how far two perspectives are apart
abbrev pub squared_distance : Perspective → Perspective → ℕ
squared_distance a b = squared_gap a.x b.x + squared_gap a.y b.y + squared_gap a.z b.z

-- two perspectives have one name, or are less than 500 kilometres apart
abbrev pub Conflicts : Conflict → Perspective → Perspective → Type 0
Conflicts Name a b = a.id ≡ b.id
Conflicts Place a b = squared_distance a b < 250000

-- the members at these two places, the first before the second, conflict
abbrev pub ConflictAt : Conflict → List Perspective → ℕ → ℕ → Type 0
ConflictAt kind members i j =
    (i < j) × IsSomeAnd (slice_get members i) (λ a. IsSomeAnd (slice_get members j) (λ b. Conflicts kind a b))

-- no two members conflict
abbrev pub HasNoConflict : Conflict → List Perspective → Type 0
HasNoConflict kind members = (i j : ℕ) → ¬ (ConflictAt kind members i j)

-- the first pair that conflicts, in the order of the first and then of the second place
pub record IsFirstConflict (kind : Conflict) (members : List Perspective) (i j : ℕ) : Type 0 where
  pub here : ConflictAt kind members i j
  pub first : (k l : ℕ) → k < i → ¬ (ConflictAt kind members k l)
  pub second : (l : ℕ) → l < j → ¬ (ConflictAt kind members i l)

-- at most 33 members, exactly one of them the primary, each with a name of its own and well placed, no two too near
pub record IsPanel (members : List Perspective) : Type 0 where
  pub few : length members ≤ 33
  pub primary : primary_count members ≡ 1
  pub names : HasNoConflict Name members
  pub places : AllPass is_placed members
  pub apart : HasNoConflict Place members

-- the fault is that of the first broken rule, in the order of `IsPanel`, with the first places that break it; out of memory is no rule
abbrev pub IsFirstFault : List Perspective → PanelFault → Type 0
IsFirstFault members TooMany = 33 < length members
IsFirstFault members NoPrimary = (length members ≤ 33) × (primary_count members ≡ 0)
IsFirstFault members TwicePrimary = (length members ≤ 33) × (1 < primary_count members)
IsFirstFault members TwiceNamed =
    (length members ≤ 33) × (primary_count members ≡ 1) × (i : ℕ) × (j : ℕ) × ConflictAt Name members i j
IsFirstFault members (BadPlace k) =
    (length members ≤ 33) × (primary_count members ≡ 1) × HasNoConflict Name members
    × (position (λ p. not (is_placed p)) members ≡ Some k)
IsFirstFault members (TooNear i j) =
    (length members ≤ 33) × (primary_count members ≡ 1) × HasNoConflict Name members × AllPass is_placed members
    × IsFirstConflict Place members i j
IsFirstFault members NoMemory = Unit {0}
