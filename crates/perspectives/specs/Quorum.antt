-- When remote network perspectives corroborate what the primary saw (BR 2.1.5, section 3.2.2.9). How many are needed
-- is in the dated tables; the numbers are this project's own.
use Rattle.std.specs.Prelude.{ℕ, ◌-◌, Bool, true, false, ◌&&◌, not, List, [], ◌∷◌, count_by, nat_lt, if◌then◌else◌}
use Rattle.std.specs.List.{zip, list_any}
use Rattle.gate_base.specs.Tables.{row_at, misses_among}
use Rattle.perspectives.specs.declared.perspective.Perspective.{Perspective}
use Rattle.perspectives.specs.declared.perspective.Region.{Region}
use Rattle.perspectives.specs.declared.perspective.Region.TheVariants.{Afrinic, Apnic, Arin, Lacnic, Ripe}
use Rattle.perspectives.specs.declared.answer.Quorum.{Quorum}
use Rattle.perspectives.specs.declared.answer.Quorum.TheVariants.{Met, TooFew, OneRegion}

-- how many members are remote perspectives
abbrev pub remote_count : List Perspective → ℕ
remote_count members = count_by (λ p. not p.primary) members

-- whether it is a remote perspective that corroborates; beside it stands what good says of it
abbrev pub is_good_remote : Perspective × Bool → Bool
is_good_remote m = m.1 && not m.0.primary

-- how many remote perspectives corroborate: good has a value for each member, in order, and the primary's is passed over
abbrev pub good_count : List Perspective → List Bool → ℕ
good_count members good = count_by is_good_remote (zip members good)

-- whether two regions are one
abbrev pub is_same : Region → Region → Bool
is_same Afrinic Afrinic = true
is_same Apnic Apnic = true
is_same Arin Arin = true
is_same Lacnic Lacnic = true
is_same Ripe Ripe = true
is_same _ _ = false

-- whether it lies in the service region of this regional Internet registry
abbrev pub lies_in : Region → Perspective → Bool
lies_in region p = is_same region p.region

abbrev pub all_regions : List Region
all_regions = Afrinic ∷ Apnic ∷ Arin ∷ Lacnic ∷ Ripe ∷ []

-- whether a remote perspective that corroborates lies in the region
abbrev pub has_good_in : Region → List Perspective → List Bool → Bool
has_good_in region members good = list_any (λ m. is_good_remote m && lies_in region m.0) (zip members good)

-- in how many regions the remote perspectives that corroborate lie
abbrev pub region_count : List Perspective → List Bool → ℕ
region_count members good = count_by (λ region. has_good_in region members good) all_regions

-- how many of so many remotes have to corroborate: what the table asks, where there are fewer than that; otherwise all but the misses that are allowed
abbrev pub needed_among : ℕ → ℕ → ℕ
needed_among remotes moment =
    if nat_lt remotes (row_at moment).remotes then (row_at moment).remotes else remotes - misses_among remotes

-- enough good remotes, in enough regions
abbrev pub quorum_of : List Perspective → List Bool → ℕ → Quorum
quorum_of members good moment =
    if nat_lt (good_count members good) (needed_among (remote_count members) moment)
    then TooFew (good_count members good) (needed_among (remote_count members) moment)
    else if nat_lt (region_count members good) (row_at moment).regions then OneRegion else Met
