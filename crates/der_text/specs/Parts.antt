-- The parts of an element, read one after another. Each reader gives nothing where the part that it wants isn't at the front.
use Rattle.std.specs.Prelude.{ℕ, Bool, true, false, List, Option, Some, None, ◌==◌, if◌then◌else◌, option_map, option_and_then}
use Rattle.der_text.specs.Tree.{Node, primitive, constructed, Nodes, no_nodes, also}

-- a reader after another
infixl 10 ◌>>=◌
abbrev pub ◌>>=◌ : {A B : Type 0} → Option A → (A → Option B) → Option B
o >>= f = option_and_then f o

-- the content of a primitive element with this tag
abbrev pub content_with : ℕ → Node → Option (List ℕ)
content_with tag (primitive found content) = if found == tag then Some content else None
content_with tag (constructed found parts) = None

-- the parts of a constructed element with this tag
abbrev pub parts_with : ℕ → Node → Option Nodes
parts_with tag (primitive found content) = None
parts_with tag (constructed found parts) = if found == tag then Some parts else None

-- such a content, or such parts, at the front, and the elements behind
abbrev pub primitive_at : ℕ → Nodes → Option (List ℕ × Nodes)
primitive_at tag no_nodes = None
primitive_at tag (also first others) = option_map (λ content. (content, others)) (content_with tag first)

abbrev pub constructed_at : ℕ → Nodes → Option (Nodes × Nodes)
constructed_at tag no_nodes = None
constructed_at tag (also first others) = option_map (λ parts. (parts, others)) (parts_with tag first)

-- the elements behind the first
abbrev pub behind_first : Nodes → Option Nodes
behind_first no_nodes = None
behind_first (also first others) = Some others

abbrev pub are_none : Nodes → Bool
are_none no_nodes = true
are_none (also first others) = false

-- what was read, where no element is left
abbrev pub at_end : {A : Type 0} → Nodes → A → Option A
at_end parts x = if are_none parts then Some x else None
