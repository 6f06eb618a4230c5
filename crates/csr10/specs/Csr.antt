-- What bytes are a certificate request, with what fields, and what is wrong with other bytes.
use Rattle.std.specs.Prelude.{◌≡◌, ◌≢◌, ℕ, ◌≤◌, List, [], ◌∷◌, length, Option, Some, None, option_map, Ok, Err}
use Rattle.std.specs.List.{AllByRecursion}
use Rattle.gate_base.specs.declared.profile.KeyKind.{KeyKind}
use Rattle.gate_base.specs.declared.name.Target.{Target}
use Rattle.der_text.specs.Tree.{Node, constructed, Nodes, spelling, IsDer, part_of}
use Rattle.der_text.specs.Fault as der
use Rattle.public_key.specs.Key.{IsKeyOf}
use Rattle.csr10.specs.declared.fault.CsrFault.{CsrFault}
use Rattle.csr10.specs.declared.fault.CsrFault.TheVariants.{Der, Shape, Version, Key, SanTwice, SanName, NoMemory}
use Rattle.csr10.specs.Shape.{request_of, each_of, sans_of_attribute}
use Rattle.csr10.specs.Names.{targets_of}

-- ---- bytes that have the shape of a request

-- the content of the version, the key as it stands in the bytes, and the values of all subjectAltName extensions
pub record Request : Type 0 where
  pub version : List ℕ
  pub spki : List ℕ
  pub sans : List (List ℕ)

-- GeneralNames (RFC 5280, section 4.2.1.6) is a SEQUENCE of names
abbrev pub SpellsNames : List ℕ → Nodes → Type 0
SpellsNames value names = IsDer value (constructed 48 names)

abbrev pub SpellsSequence : List ℕ → Type 0
SpellsSequence value = (names : Nodes) × SpellsNames value names

-- the third part of the first part
abbrev pub spki_of : Node → Option (List ℕ)
spki_of tree = option_map spelling (part_of (0 ∷ 2 ∷ []) tree)

pub record IsRequest (bytes : List ℕ) (request : Request) : Type 0 where
  pub tree : Node
  pub attributes : Nodes
  pub spelled : IsDer bytes tree
  pub parts : request_of tree ≡ Some (request.version, attributes)
  pub key : spki_of tree ≡ Some request.spki
  pub sans : each_of sans_of_attribute attributes ≡ Some request.sans
  pub sequences : AllByRecursion SpellsSequence request.sans

-- ---- fields

pub record Fields : Type 0 where
  pub spki : List ℕ
  pub kind : KeyKind
  pub san : Option (List Target)

-- the targets of the only subjectAltName, or none where there is no such extension
abbrev pub IsSan : List (List ℕ) → Option (List Target) → Type 0
IsSan [] san = san ≡ None
IsSan (value ∷ []) san =
    (names : Nodes) × (targets : List Target) × SpellsNames value names × (targets_of names ≡ Ok targets) × (san ≡ Some targets)
IsSan (value ∷ other ∷ others) san = ⊥

-- the fields of a request of version 1, which is written as 0 (RFC 2986, section 4.1), with a good key
pub record AreFields (request : Request) (fields : Fields) : Type 0 where
  pub version : request.version ≡ 0 ∷ []
  pub spki : fields.spki ≡ request.spki
  pub key : IsKeyOf request.spki fields.kind
  pub san : IsSan request.sans fields.san

-- the bytes are a request with these fields
pub record IsCsr (bytes : List ℕ) (fields : Fields) : Type 0 where
  pub request : Request
  pub is : IsRequest bytes request
  pub asks : AreFields request fields

-- ---- faults

-- the bytes spell a tree, and it is no request
pub record HasBadShape (bytes : List ℕ) : Type 0 where
  pub tree : Node
  pub spelled : IsDer bytes tree
  pub none : (request : Request) → ¬ (IsRequest bytes request)

abbrev pub HasBadVersion : Request → Type 0
HasBadVersion request = request.version ≢ 0 ∷ []

abbrev pub HasBadKey : Request → Type 0
HasBadKey request = (kind : KeyKind) → ¬ (IsKeyOf request.spki kind)

abbrev pub HasTwoSans : Request → Type 0
HasTwoSans request = 2 ≤ length request.sans

-- the only subjectAltName has at this place, from 0, its first name that is no target
pub record HasBadName (request : Request) (place : ℕ) : Type 0 where
  pub value : List ℕ
  pub names : Nodes
  pub only : request.sans ≡ value ∷ []
  pub spelled : SpellsNames value names
  pub first : targets_of names ≡ Err place

-- the first fault of a request: F09 its version, F10 its key, F11 two subjectAltNames, F12 a name; out of memory may be returned
-- at any time
abbrev pub HasFault : Request → CsrFault → Type 0
HasFault request (Der fault) = ⊥
HasFault request Shape = ⊥
HasFault request Version = HasBadVersion request
HasFault request Key = (¬ HasBadVersion request) × HasBadKey request
HasFault request SanTwice = (¬ HasBadVersion request) × (¬ HasBadKey request) × HasTwoSans request
HasFault request (SanName place) = (¬ HasBadVersion request) × (¬ HasBadKey request) × (¬ HasTwoSans request) × HasBadName request place
HasFault request NoMemory = Unit {0}

abbrev pub OfRequest : List ℕ → CsrFault → Type 0
OfRequest bytes fault = (request : Request) × IsRequest bytes request × HasFault request fault

-- the first fault of bytes: F07 they are no DER, F08 no request, F09 to F12 as above; out of memory may be returned at any time
abbrev pub IsFirstFault : List ℕ → CsrFault → Type 0
IsFirstFault bytes (Der fault) = der.IsFirstFault bytes fault
IsFirstFault bytes Shape = HasBadShape bytes
IsFirstFault bytes Version = OfRequest bytes Version
IsFirstFault bytes Key = OfRequest bytes Key
IsFirstFault bytes SanTwice = OfRequest bytes SanTwice
IsFirstFault bytes (SanName place) = OfRequest bytes (SanName place)
IsFirstFault bytes NoMemory = Unit {0}
