-- Questions to the parts of an element, and to lists.
use Rattle.std.specs.Prelude.{ℕ, ◌+◌, Bool, true, false, ◌&&◌, ◌||◌, List, [], ◌∷◌, ◌++◌, Option, Some, None}
use Rattle.std.specs.List.{list_any}
use Rattle.der_text.specs.Tree.{Node, Nodes, no_nodes, also}
use Rattle.der_text.specs.Parts.{parts_with}

abbrev pub any_part : (Node → Bool) → Nodes → Bool
any_part test no_nodes = false
any_part test (also first others) = test first || any_part test others

abbrev pub all_parts : (Node → Bool) → Nodes → Bool
all_parts test no_nodes = true
all_parts test (also first others) = test first && all_parts test others

-- how many parts pass
abbrev pub one_if : Bool → ℕ
one_if true = 1
one_if false = 0

abbrev pub count_parts : (Node → Bool) → Nodes → ℕ
count_parts test no_nodes = 0
count_parts test (also first others) = one_if (test first) + count_parts test others

-- what the parts give, in a row
abbrev pub listed : {A : Type 0} → Option A → List A
listed None = []
listed (Some x) = x ∷ []

abbrev pub each_given : {A : Type 0} → (Node → Option A) → Nodes → List A
each_given read no_nodes = []
each_given read (also first others) = listed (read first) ++ each_given read others

-- a member that is the same as a later one
abbrev pub has_twice : {A : Type 0} → (A → A → Bool) → List A → Bool
has_twice same [] = false
has_twice same (first ∷ others) = list_any (same first) others || has_twice same others

-- the parts of a SEQUENCE, and none of anything else
abbrev pub elements : Option Node → Option Nodes
elements None = None
elements (Some tree) = parts_with 48 tree

abbrev pub or_none : Option Nodes → Nodes
or_none None = no_nodes
or_none (Some parts) = parts

abbrev pub shown : Option Node → Nodes
shown tree = or_none (elements tree)
