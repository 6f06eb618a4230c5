-- The dated tables: what is asked from which moment on. The rows follow BR 2.1.5 (sections 4.2.1, 6.3.2 and
-- 3.2.2.9); the dates and the numbers are this project's own.
use Rattle.std.specs.Prelude.{ℕ, List, [], ◌∷◌, nat_le, nat_lt, if◌then◌else◌}

pub record Row : Type 0 where
  pub from : ℕ
  pub reuse : ℕ
  pub validity : ℕ
  pub remotes : ℕ
  pub regions : ℕ

abbrev row : ℕ → ℕ → ℕ → ℕ → ℕ → Row
row from reuse validity remotes regions = record { from = from; reuse = reuse; validity = validity; remotes = remotes; regions = regions }

-- the first row holds from the beginning, the others from 00:00:00 UTC of 2026-03-15, 2026-06-15, 2026-12-15, 2027-03-15 and 2029-03-15
abbrev pub first_row : Row
first_row = row 0 398 398 2 1

abbrev pub later_rows : List Row
later_rows =
    row 1773532800 200 200 3 2
    ∷ row 1781481600 200 200 4 2
    ∷ row 1797292800 200 200 5 2
    ∷ row 1805068800 100 100 5 2
    ∷ row 1868227200 10 47 5 2
    ∷ []

-- the last row that has begun
abbrev pub row_among : Row → List Row → ℕ → Row
row_among begun [] moment = begun
row_among begun (next ∷ rows) moment = if nat_le next.from moment then row_among next rows moment else begun

abbrev pub row_at : ℕ → Row
row_at moment = row_among first_row later_rows moment

-- how many of so many remote perspectives may miss: none of 0 or 1, one of 2 to 5, two of 6 and more
abbrev pub misses_among : ℕ → ℕ
misses_among remotes = if nat_lt remotes 2 then 0 else if nat_lt remotes 6 then 1 else 2
