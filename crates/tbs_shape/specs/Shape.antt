-- Which trees have the shape of a certificate's body (TBSCertificate, RFC 5280, section 4.1), and what they say.
use Rattle.std.specs.Prelude.{◌≡◌, ℕ, ◌+◌, Bool, true, false, ◌||◌, ◌==◌, List, [], ◌∷◌, ◌++◌, Option, Some, None, option_map, if◌then◌else◌}
use Rattle.der_text.specs.Tree.{Node, primitive, constructed, Nodes, no_nodes, also, spelling, IsDer, part_of}
use Rattle.der_text.specs.Parts.{◌>>=◌, parts_with, primitive_at, constructed_at, are_none, at_end}
use Rattle.tbs_shape.specs.Body.{Primitive, Attribute, Extension, Body}

-- ---- parts that may be left out

-- version, [0]: one INTEGER, if it is there
abbrev pub version_among : Option (Nodes × Nodes) → Nodes → Option (Option (List ℕ) × Nodes)
version_among None parts = Some (None, parts)
version_among (Some found) parts = do
  number ← primitive_at 2 found.0
  at_end number.1 (Some number.0, found.1)

abbrev pub version_at : Nodes → Option (Option (List ℕ) × Nodes)
version_at parts = version_among (constructed_at 160 parts) parts

abbrev pub is_true : List ℕ → Bool
is_true [] = false
is_true (first ∷ []) = first == 255
is_true (first ∷ second ∷ rest) = false

-- critical, a BOOLEAN: it is true, if it is there, since DER leaves out what is the default (X.690, section 11.5)
abbrev pub critical_among : Option (List ℕ × Nodes) → Nodes → Option (Bool × Nodes)
critical_among None parts = Some (false, parts)
critical_among (Some found) parts = if is_true found.0 then Some (true, found.1) else None

abbrev pub critical_at : Nodes → Option (Bool × Nodes)
critical_at parts = critical_among (primitive_at 1 parts) parts

-- whether a primitive element with this tag is at the front, and what stands behind it
abbrev pub present_among : Option (List ℕ × Nodes) → Nodes → Bool × Nodes
present_among None parts = (false, parts)
present_among (Some found) parts = (true, found.1)

abbrev pub present_at : ℕ → Nodes → Bool × Nodes
present_at tag parts = present_among (primitive_at tag parts) parts

-- ---- times, attributes, extensions

abbrev pub element_of : Node → Option Primitive
element_of (primitive tag content) = Some (record { tag = tag; content = content })
element_of (constructed tag parts) = None

-- a primitive element of any tag at the front, and the elements behind
abbrev pub element_at : Nodes → Option (Primitive × Nodes)
element_at no_nodes = None
element_at (also first others) = option_map (λ found. (found, others)) (element_of first)

-- Validity: two primitive elements
abbrev pub times_of : Nodes → Option (Primitive × Primitive)
times_of parts = do
  before ← element_at parts
  after ← element_at before.1
  at_end after.1 (before.0, after.0)

abbrev pub joined : {A : Type 0} → Option (List A) → Option (List A) → Option (List A)
joined None back = None
joined (Some front) None = None
joined (Some front) (Some back) = Some (front ++ back)

-- what each element gives, in a row, if each has the form
abbrev pub each_of : {A : Type 0} → (Node → Option (List A)) → Nodes → Option (List A)
each_of read no_nodes = Some []
each_of read (also first others) = joined (read first) (each_of read others)

-- AttributeTypeAndValue: an OBJECT IDENTIFIER and a primitive element
abbrev pub attribute_of : Node → Option Attribute
attribute_of tree = do
  parts ← parts_with 48 tree
  identifier ← primitive_at 6 parts
  value ← element_at identifier.1
  at_end value.1 (record { identifier = identifier.0; value = value.0 })

abbrev pub attribute_in : Node → Option (List Attribute)
attribute_in tree = option_map (λ attribute. attribute ∷ []) (attribute_of tree)

-- RelativeDistinguishedName: a SET of attributes
abbrev pub attributes_in : Node → Option (List Attribute)
attributes_in tree = do
  parts ← parts_with 49 tree
  each_of attribute_in parts

-- Extension: an OBJECT IDENTIFIER, whether it is critical, and an OCTET STRING
abbrev pub extension_of : Node → Option Extension
extension_of tree = do
  parts ← parts_with 48 tree
  identifier ← primitive_at 6 parts
  critical ← critical_at identifier.1
  value ← primitive_at 4 critical.1
  at_end value.1 (record { identifier = identifier.0; critical = critical.0; value = value.0 })

abbrev pub extension_in : Node → Option (List Extension)
extension_in tree = option_map (λ extension. extension ∷ []) (extension_of tree)

-- ---- the whole body

-- SubjectPublicKeyInfo: a SEQUENCE and a BIT STRING
abbrev pub bits_of : Nodes → Option (List ℕ)
bits_of parts = do
  algorithm ← constructed_at 48 parts
  bits ← primitive_at 3 algorithm.1
  at_end bits.1 bits.0

-- extensions, [3]: one SEQUENCE, if it is there; nothing follows
abbrev pub extensions_among : Option (Nodes × Nodes) → Nodes → Option (Option Nodes)
extensions_among None parts = at_end parts None
extensions_among (Some found) parts = do
  extensions ← constructed_at 48 found.0
  none ← at_end extensions.1 extensions.0
  at_end found.1 (Some extensions.0)

abbrev pub extensions_at : Nodes → Option (Option Nodes)
extensions_at parts = extensions_among (constructed_at 163 parts) parts

-- what stands before the times: the version, the serial number, and, passed over here, the algorithm and the issuer
abbrev pub front_of : Nodes → Option (Option (List ℕ) × List ℕ × Nodes)
front_of parts = do
  version ← version_at parts
  serial ← primitive_at 2 version.1
  algorithm ← constructed_at 48 serial.1
  issuer ← constructed_at 48 algorithm.1
  Some (version.0, serial.0, issuer.1)

-- what stands behind the key: issuerUniqueID, [1], and subjectUniqueID, [2], and the extensions
abbrev pub back_of : Nodes → Option (Bool × Option Nodes)
back_of parts =
    option_map (λ extensions. ((present_at 129 parts).0 || (present_at 130 (present_at 129 parts).1).0, extensions))
    (extensions_at (present_at 130 (present_at 129 parts).1).1)

-- the outermost parts of a body
pub record Layout : Type 0 where
  pub version : Option (List ℕ)
  pub serial : List ℕ
  pub validity : Nodes
  pub subject : Nodes
  pub key_bits : List ℕ
  pub has_unique_id : Bool
  pub extensions : Option Nodes

unfoldable pub layout_of : Node → Option Layout
layout_of tree = do
  parts ← parts_with 48 tree
  front ← front_of parts
  validity ← constructed_at 48 front.2
  subject ← constructed_at 48 validity.1
  key ← constructed_at 48 subject.1
  bits ← bits_of key.0
  back ← back_of key.1
  Some (record {
    version = front.0;
    serial = front.1;
    validity = validity.0;
    subject = subject.0;
    key_bits = bits;
    has_unique_id = back.0;
    extensions = back.1;
  })

-- the extensions, if they are there and each has the form
abbrev pub extensions_of : Option Nodes → Option (Option (List Extension))
extensions_of None = Some None
extensions_of (Some extensions) = option_map Some (each_of extension_in extensions)

-- a part as it stands in the bytes
abbrev pub spelled_at : List ℕ → Node → Option (List ℕ)
spelled_at path tree = option_map spelling (part_of path tree)

-- the places of the algorithm, the issuer and the key's algorithm, which a version moves by one
abbrev pub place_behind : Option (List ℕ) → ℕ → ℕ
place_behind None place = place
place_behind (Some version) place = 1 + place

-- the parts that are kept as they stand in the bytes: the algorithm, the issuer and the key's algorithm
pub record Kept : Type 0 where
  pub algorithm : List ℕ
  pub issuer : List ℕ
  pub key_algorithm : List ℕ

abbrev pub kept_of : Option (List ℕ) → Node → Option Kept
kept_of version tree = do
  algorithm ← spelled_at (place_behind version 1 ∷ []) tree
  issuer ← spelled_at (place_behind version 2 ∷ []) tree
  key_algorithm ← spelled_at (place_behind version 5 ∷ 0 ∷ []) tree
  Some (record { algorithm = algorithm; issuer = issuer; key_algorithm = key_algorithm })

-- what a tree says as a body
unfoldable pub body_of : Node → Option Body
body_of tree = do
  layout ← layout_of tree
  kept ← kept_of layout.version tree
  times ← times_of layout.validity
  subject ← each_of attributes_in layout.subject
  extensions ← extensions_of layout.extensions
  Some (record {
    version = layout.version;
    serial = layout.serial;
    algorithm = kept.algorithm;
    issuer = kept.issuer;
    not_before = times.0;
    not_after = times.1;
    subject_is_empty = are_none layout.subject;
    subject = subject;
    key_algorithm = kept.key_algorithm;
    key_bits = layout.key_bits;
    has_unique_id = layout.has_unique_id;
    extensions = extensions;
  })

-- the bytes are a body that says this
pub record IsBody (bytes : List ℕ) (body : Body) : Type 0 where
  pub tree : Node
  pub spelled : IsDer bytes tree
  pub says : body_of tree ≡ Some body
