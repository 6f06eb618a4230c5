-- What the reader of an element and that of parts say.
use Rattle.std.specs.Prelude.{◌≡◌, ℕ, List, ◌++◌}
use Rattle.der_text.specs.Tree.{Node, Nodes, spelling, spellings, IsInForm, AreInForm}

-- the bytes begin with a tree in the form, at most so many levels deep, and go on with a rest
pub record Begins (levels : ℕ) (bytes : List ℕ) (tree : Node) (rest : List ℕ) : Type 0 where
  pub parts : bytes ≡ spelling tree ++ rest
  pub form : IsInForm levels tree

-- the same of several trees one after another
pub record BeginsWith (levels : ℕ) (bytes : List ℕ) (trees : Nodes) (rest : List ℕ) : Type 0 where
  pub parts : bytes ≡ spellings trees ++ rest
  pub form : AreInForm levels trees
