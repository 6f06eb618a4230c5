-- DER trees, how they are spelled, and which of them are in the form. The sections are those of X.690.
use Rattle.std.specs.Prelude.{◌≡◌, ◌≢◌, ℕ, zero, suc, ◌+◌, ◌<◌, ◌/◌, ◌%◌, ◌^◌, List, [], ◌∷◌, ◌++◌, length, Option, Some, None, option_and_then, true, false, IsTrue, nat_lt, if◌then◌else◌}
use Rattle.der_text.specs.Content.{is_constructed, keeps_rule}

-- an element with its tag: a primitive one has a content, a constructed one has parts
mutual
  pub data Node : Type 0 where
    primitive : ℕ → List ℕ → Node
    constructed : ℕ → Nodes → Node

  pub data Nodes : Type 0 where
    no_nodes : Nodes
    also : Node → Nodes → Nodes

-- The shortest length (8.1.3, 10.1): one byte below 128, or the number of bytes that follow, with 80 hexadecimal,
-- and those bytes.
unfoldable pub length_octets : ℕ → List ℕ
length_octets n =
    if nat_lt n 128 then n ∷ [] else if nat_lt n (2 ^ 8) then 129 ∷ n ∷ [] else
    if nat_lt n (2 ^ 16) then 130 ∷ n / 2 ^ 8 ∷ n % 2 ^ 8 ∷ [] else
    if nat_lt n (2 ^ 24) then 131 ∷ n / 2 ^ 16 ∷ (n / 2 ^ 8) % 2 ^ 8 ∷ n % 2 ^ 8 ∷ [] else
    132 ∷ n / 2 ^ 24 ∷ (n / 2 ^ 16) % 2 ^ 8 ∷ (n / 2 ^ 8) % 2 ^ 8 ∷ n % 2 ^ 8 ∷ []

-- what stands before a content of such a length (8.1.1): the tag and the length
abbrev pub head_of : ℕ → ℕ → List ℕ
head_of tag len = tag ∷ length_octets len

-- an element (8.1.1): its tag, the length of its content, and the content
abbrev pub element : ℕ → List ℕ → List ℕ
element tag content = tag ∷ length_octets (length content) ++ content

-- how many bytes stand before such a content
abbrev pub head_length : List ℕ → ℕ
head_length content = 1 + length (length_octets (length content))

-- how many bytes an element has whose content has so many
abbrev pub element_length : ℕ → ℕ
element_length len = 1 + length (length_octets len) + len

-- the bytes of a tree, and of several one after another
abbrev mutual
  pub spelling : Node → List ℕ
  spelling (primitive tag content) = element tag content
  spelling (constructed tag parts) = element tag (spellings parts)

  pub spellings : Nodes → List ℕ
  spellings no_nodes = []
  spellings (also first others) = spelling first ++ spellings others

-- the content of a tree's outermost element
abbrev pub content_of : Node → List ℕ
content_of (primitive tag content) = content
content_of (constructed tag parts) = spellings parts

-- What holds of the tag and the content of each element: a tag of one byte (8.1.2), at most four length bytes,
-- and the tag's rule.
pub record IsElement (tag : ℕ) (content : List ℕ) : Type 0 where
  pub one_byte_tag : tag % 32 ≢ 31
  pub size : length content < 2 ^ 32
  pub rule : IsTrue (keeps_rule tag content)

-- the tree and all below it are in the form, and lie at most so many levels deep
unfoldable mutual
  pub IsInForm : ℕ → Node → Type 0
  IsInForm zero (primitive tag content) = ⊥
  IsInForm zero (constructed tag parts) = ⊥
  IsInForm (suc levels) (primitive tag content) = (is_constructed tag ≡ false) × IsElement tag content
  IsInForm (suc levels) (constructed tag parts) =
      (is_constructed tag ≡ true) × IsElement tag (spellings parts) × AreInForm levels parts

  pub AreInForm : ℕ → Nodes → Type 0
  AreInForm levels no_nodes = Unit {0}
  AreInForm levels (also first others) = IsInForm levels first × AreInForm levels others

-- the bytes spell the tree, which is in the form and at most 32 levels deep
pub record IsDer (bytes : List ℕ) (tree : Node) : Type 0 where
  pub spelled : bytes ≡ spelling tree
  pub form : IsInForm 32 tree

-- the node at a place, counted from 0
abbrev pub node_at : Nodes → ℕ → Option Node
node_at no_nodes i = None
node_at (also first others) zero = Some first
node_at (also first others) (suc i) = node_at others i

-- the parts of a node; a primitive one has none
abbrev pub parts_of : Node → Nodes
parts_of (primitive tag content) = no_nodes
parts_of (constructed tag parts) = parts

-- the node that a path leads to, each of its numbers naming a part from 0
abbrev pub part_of : List ℕ → Node → Option Node
part_of [] tree = Some tree
part_of (i ∷ path) tree = option_and_then (part_of path) (node_at (parts_of tree) i)
