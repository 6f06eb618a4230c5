-- The observable state of a clock, and what one reading does to it.
use Rattle.std.specs.Prelude.{◌≡◌, ℕ, ◌≤◌, List, [], ◌∷◌, Option, None, IfSome, IfNone}
use Rattle.std.specs.Option.{option_map}
use Rattle.plant.specs.Causes.{Rose}

-- what the coming calls give, a fault as None, where it is told; and the count of faults
pub record ClockTold : Type 0 where
  pub coming : Option (List (Option ℕ))
  pub faults : ℕ

-- an empty clock fails
abbrev pub next_reading : List (Option ℕ) → Option ℕ
next_reading [] = None
next_reading (reading ∷ readings) = reading

-- the last reading stays
abbrev pub after_reading : List (Option ℕ) → List (Option ℕ)
after_reading [] = []
after_reading (reading ∷ []) = reading ∷ []
after_reading (reading ∷ next ∷ readings) = next ∷ readings

-- one call of the clock
pub record Reads (before now : ClockTold) (reading : Option ℕ) : Type 0 where
  pub given : IfSome before.coming (λ readings. reading ≡ next_reading readings)
  pub coming : now.coming ≡ option_map after_reading before.coming
  pub later : before.faults ≤ now.faults
  pub failed : IfNone reading (Rose before.faults now.faults)
