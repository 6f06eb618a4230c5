-- The trees of requests, attributes and extensions, from their parts to the tree.
use Rattle.std.specs.Prelude.{◌≡◌, ℕ, List, Option, Some, None}
use Rattle.der_text.specs.Tree.{Node, primitive, constructed, Nodes, no_nodes, also}

-- CertificationRequestInfo (RFC 2986, section 4.1)
abbrev pub info_tree : List ℕ → Nodes → Nodes → Nodes → Node
info_tree version subject key attributes =
    constructed 48 (also (primitive 2 version) (also (constructed 48 subject) (also (constructed 48 key) (also (constructed 160 attributes) no_nodes))))

-- AlgorithmIdentifier (RFC 5280, section 4.1.1.2)
abbrev pub algorithm_tree : List ℕ → Nodes → Node
algorithm_tree name parameters = constructed 48 (also (primitive 6 name) parameters)

-- CertificationRequest (RFC 2986, section 4.2)
abbrev pub request_tree : Node → Node → List ℕ → Node
request_tree info algorithm signature = constructed 48 (also info (also algorithm (also (primitive 3 signature) no_nodes)))

-- the tree is a request of this version with these attributes
pub record IsRequestTree (tree : Node) (version : List ℕ) (attributes : Nodes) : Type 0 where
  pub subject : Nodes
  pub key : Nodes
  pub name : List ℕ
  pub parameters : Nodes
  pub signature : List ℕ
  pub is : tree ≡ request_tree (info_tree version subject key attributes) (algorithm_tree name parameters) signature

-- Attribute (RFC 2986, section 4.1)
abbrev pub attribute_tree : List ℕ → Nodes → Node
attribute_tree type values = constructed 48 (also (primitive 6 type) (also (constructed 49 values) no_nodes))

-- a BOOLEAN or none, and what follows
abbrev pub with_boolean : Option (List ℕ) → Nodes → Nodes
with_boolean None others = others
with_boolean (Some content) others = also (primitive 1 content) others

-- Extension (RFC 5280, section 4.1)
abbrev pub extension_tree : List ℕ → Option (List ℕ) → List ℕ → Node
extension_tree identifier critical value =
    constructed 48 (also (primitive 6 identifier) (with_boolean critical (also (primitive 4 value) no_nodes)))

abbrev pub IsExtensionTree : Node → List ℕ → List ℕ → Type 0
IsExtensionTree tree identifier value = (critical : Option (List ℕ)) × (tree ≡ extension_tree identifier critical value)
