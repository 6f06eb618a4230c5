-- A list that only clauses read.
use Rattle.std.specs.Prelude.{List, [], ◌∷◌}
use Rattle.plant.specs.declared.ghost_list.GhostList.{GhostList, Empty, Then'}

-- its items, the last first
abbrev pub items_of : {T : Type 0} → GhostList T → List T
items_of Empty = []
items_of (Then' marker before item) = item.value ∷ items_of before
