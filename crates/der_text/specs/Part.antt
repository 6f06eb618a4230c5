-- The part that a path names, as it stands in the bytes.
use Rattle.std.specs.Prelude.{◌≡◌, ℕ, List, ◌++◌, Option, Some, option_map}
use Rattle.der_text.specs.Tree.{Node, Nodes, spelling, spellings, IsInForm, AreInForm, IsDer, node_at, parts_of, part_of}

-- where a tree in the form stands at the front, the bytes are cut after it
abbrev pub IsSplit : List ℕ → Option (List ℕ × List ℕ) → Type 0
IsSplit bytes split =
    (levels : ℕ) (tree : Node) (rest : List ℕ) → IsInForm levels tree → bytes ≡ spelling tree ++ rest → split ≡ Some (spelling tree, rest)

-- of the trees that the bytes spell, what is given is the one at the place
abbrev pub IsAt : List ℕ → ℕ → Option (List ℕ) → Type 0
IsAt bytes i found =
    (levels : ℕ) (trees : Nodes) → AreInForm levels trees → bytes ≡ spellings trees → found ≡ option_map spelling (node_at trees i)

-- of the tree that the bytes spell, what is given is the part at the place
abbrev pub IsPart : List ℕ → ℕ → Option (List ℕ) → Type 0
IsPart bytes i found =
    (levels : ℕ) (tree : Node) → IsInForm levels tree → bytes ≡ spelling tree → found ≡ option_map spelling (node_at (parts_of tree) i)

-- Of the tree that the bytes spell, what is given is the spelling of the part that the path leads to,
-- or none where there is no such part.
abbrev pub IsNamedPart : List ℕ → List ℕ → Option (List ℕ) → Type 0
IsNamedPart bytes path found = (tree : Node) → IsDer bytes tree → found ≡ option_map spelling (part_of path tree)
