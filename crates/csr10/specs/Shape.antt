-- The parts of a certificate request that are looked at. What else a tool writes into one is passed over.
use Rattle.std.specs.Prelude.{ℕ, Bool, false, List, [], ◌∷◌, ◌++◌, Option, Some, None, option_map, ◌==◌, if◌then◌else◌}
use Rattle.std.specs.Str.{bytes_eq}
use Rattle.der_text.specs.Tree.{Node, primitive, constructed, Nodes, no_nodes, also}
use Rattle.der_text.specs.Parts.{◌>>=◌, parts_with, primitive_at, constructed_at, at_end}

-- CertificationRequestInfo (RFC 2986, section 4.1): the version, a subject, a key and [0] the attributes.
-- Here the content of the version and the attributes.
abbrev pub info_of : Nodes → Option (List ℕ × Nodes)
info_of parts = do
  version ← primitive_at 2 parts
  subject ← constructed_at 48 version.1
  key ← constructed_at 48 subject.1
  attributes ← constructed_at 160 key.1
  at_end attributes.1 (version.0, attributes.0)

-- AlgorithmIdentifier (RFC 5280, section 4.1.1.2): an OBJECT IDENTIFIER, and what belongs to it
abbrev pub algorithm_of : Nodes → Option (List ℕ)
algorithm_of parts = do
  found ← primitive_at 6 parts
  Some found.0

-- CertificationRequest (RFC 2986, section 4.2): the info, the algorithm and the signature
abbrev pub request_of : Node → Option (List ℕ × Nodes)
request_of tree = do
  parts ← parts_with 48 tree
  info ← constructed_at 48 parts
  algorithm ← constructed_at 48 info.1
  named ← algorithm_of algorithm.0
  signature ← primitive_at 3 algorithm.1
  found ← info_of info.0
  at_end signature.1 found

-- ---- attributes and extensions

-- extensionRequest (RFC 2985, section 5.4.2): 1.2.840.113549.1.9.14
abbrev pub extension_request : List ℕ
extension_request = 0x2a ∷ 0x86 ∷ 0x48 ∷ 0x86 ∷ 0xf7 ∷ 0x0d ∷ 0x01 ∷ 0x09 ∷ 0x0e ∷ []

-- subjectAltName (RFC 5280, section 4.2.1.6): 2.5.29.17
abbrev pub subject_alt_name : List ℕ
subject_alt_name = 0x55 ∷ 0x1d ∷ 0x11 ∷ []

abbrev pub is_boolean : Node → Bool
is_boolean (primitive tag content) = tag == 1
is_boolean (constructed tag parts) = false

-- what stands behind a BOOLEAN, where one is at the front
abbrev pub behind_boolean : Nodes → Nodes
behind_boolean no_nodes = no_nodes
behind_boolean (also first others) = if is_boolean first then others else also first others

-- Extension (RFC 5280, section 4.1): its identifier, whether it is critical, and an OCTET STRING.
-- Here the identifier and the string.
abbrev pub extension_of : Node → Option (List ℕ × List ℕ)
extension_of tree = do
  parts ← parts_with 48 tree
  identifier ← primitive_at 6 parts
  value ← primitive_at 4 (behind_boolean identifier.1)
  at_end value.1 (identifier.0, value.0)

-- Attribute (RFC 2986, section 4.1): its type and the SET of its values. Laxer than the RFC, an attribute that is not looked
-- at may have an empty SET.
abbrev pub attribute_of : Node → Option (List ℕ × Nodes)
attribute_of tree = do
  parts ← parts_with 48 tree
  type ← primitive_at 6 parts
  values ← constructed_at 49 type.1
  at_end values.1 (type.0, values.0)

-- an extensionRequest has one value, a SEQUENCE of extensions
abbrev pub extensions_of : Nodes → Option Nodes
extensions_of values = do
  extensions ← constructed_at 48 values
  at_end extensions.1 extensions.0

-- ---- the values of the subjectAltName extensions

abbrev pub joined : Option (List (List ℕ)) → Option (List (List ℕ)) → Option (List (List ℕ))
joined None back = None
joined (Some front) None = None
joined (Some front) (Some back) = Some (front ++ back)

-- what each element gives, in a row, if each has the form
abbrev pub each_of : (Node → Option (List (List ℕ))) → Nodes → Option (List (List ℕ))
each_of read no_nodes = Some []
each_of read (also first others) = joined (read first) (each_of read others)

abbrev pub san_in : List ℕ × List ℕ → List (List ℕ)
san_in extension = if bytes_eq extension.0 subject_alt_name then extension.1 ∷ [] else []

abbrev pub sans_of_extension : Node → Option (List (List ℕ))
sans_of_extension tree = option_map san_in (extension_of tree)

abbrev pub sans_of_values : Nodes → Option (List (List ℕ))
sans_of_values values = do
  extensions ← extensions_of values
  each_of sans_of_extension extensions

abbrev pub sans_in : List ℕ × Nodes → Option (List (List ℕ))
sans_in attribute = if bytes_eq attribute.0 extension_request then sans_of_values attribute.1 else Some []

abbrev pub sans_of_attribute : Node → Option (List (List ℕ))
sans_of_attribute tree = do
  attribute ← attribute_of tree
  sans_in attribute
