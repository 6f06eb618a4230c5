-- The observable state of a source of random bytes, and what one draw does to it.
use Rattle.std.specs.Prelude.{◌≡◌, ℕ, ◌≤◌, List, [], ◌∷◌, Option, None, IfSome, IfNone}
use Rattle.std.specs.Option.{option_map}
use Rattle.gate_base.specs.declared.sixteen.Sixteen.{Sixteen}
use Rattle.plant.specs.Causes.{Rose}

-- what the coming draws give, a fault as None, where it is told; and the count of faults
pub record EntropyTold : Type 0 where
  pub coming : Option (List (Option Sixteen))
  pub faults : ℕ

-- after the last draw there is none
abbrev pub next_draw : List (Option Sixteen) → Option Sixteen
next_draw [] = None
next_draw (draw ∷ draws) = draw

abbrev pub after_draw : List (Option Sixteen) → List (Option Sixteen)
after_draw [] = []
after_draw (draw ∷ draws) = draws

-- one draw
pub record Draws (before now : EntropyTold) (draw : Option Sixteen) : Type 0 where
  pub given : IfSome before.coming (λ draws. draw ≡ next_draw draws)
  pub coming : now.coming ≡ option_map after_draw before.coming
  pub later : before.faults ≤ now.faults
  pub failed : IfNone draw (Rose before.faults now.faults)
