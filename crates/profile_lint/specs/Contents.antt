-- What bytes say that the rules judge: the parts of a body, its times, and the trees that its key and the values of its
-- extensions spell.
use Rattle.std.specs.Prelude.{◌≡◌, ◌↔◌, ℕ, ℤ, Bool, List, [], Option, Some, None}
use Rattle.std.specs.List.{find}
use Rattle.std.specs.Str.{bytes_eq}
use Rattle.der_text.specs.Tree.{Node, IsDer}
use Rattle.public_key.specs.Key.{behind_zero}
use Rattle.tbs_shape.specs.Body.{Body, Extension, Primitive}
use Rattle.tbs_shape.specs.Shape.{IsBody}
use Rattle.cert_time.specs.Time.{IsTimeText}
use Rattle.profile_lint.specs.Identifiers as identifiers

abbrev pub or_empty : Option (List Extension) → List Extension
or_empty None = []
or_empty (Some extensions) = extensions

abbrev pub is_named : List ℕ → Extension → Bool
is_named identifier extension = bytes_eq extension.identifier identifier

-- The first extension with this name. Where one stands there twice the first is judged.
abbrev pub extension_named : List ℕ → Body → Option Extension
extension_named identifier body = find (is_named identifier) (or_empty body.extensions)

-- the tree that bytes spell, if they spell one
abbrev pub IsReading : List ℕ → Option Node → Type 0
IsReading bytes found = (tree : Node) → IsDer bytes tree ↔ (found ≡ Some tree)

-- the same of bytes that may be absent
abbrev pub IsReadingOf : Option (List ℕ) → Option Node → Type 0
IsReadingOf None found = found ≡ None
IsReadingOf (Some bytes) found = IsReading bytes found

abbrev pub value_of : Option Extension → Option (List ℕ)
value_of None = None
value_of (Some extension) = Some extension.value

-- an extension, if it is there, and the tree that its value spells
pub record Judged : Type 0 where
  pub extension : Option Extension
  pub tree : Option Node

pub record IsJudged (body : Body) (identifier : List ℕ) (judged : Judged) : Type 0 where
  pub first : judged.extension ≡ extension_named identifier body
  pub read : IsReadingOf (value_of judged.extension) judged.tree

-- the seconds of a time, if it has its form
pub record IsTime (time : Primitive) (found : Option ℤ) : Type 0 where
  pub exact : (seconds : ℤ) → (found ≡ Some seconds) ↔ IsTimeText time.tag time.content seconds

pub record Contents : Type 0 where
  pub body : Body
  pub begins : Option ℤ
  pub ends : Option ℤ
  pub key : Option Node
  pub names : Judged
  pub usage : Judged
  pub purposes : Judged
  pub policies : Judged
  pub points : Judged
  pub access : Judged

-- The bytes are a body with these contents. The key is the tree of the bits behind the number of unused ones, which is
-- 0.
pub record Says (bytes : List ℕ) (c : Contents) : Type 0 where
  pub body : IsBody bytes c.body
  pub begins : IsTime c.body.not_before c.begins
  pub ends : IsTime c.body.not_after c.ends
  pub key : IsReadingOf (behind_zero c.body.key_bits) c.key
  pub names : IsJudged c.body identifiers.subject_alt_name c.names
  pub usage : IsJudged c.body identifiers.key_usage c.usage
  pub purposes : IsJudged c.body identifiers.ext_key_usage c.purposes
  pub policies : IsJudged c.body identifiers.certificate_policies c.policies
  pub points : IsJudged c.body identifiers.crl_distribution_points c.points
  pub access : IsJudged c.body identifiers.authority_info_access c.access
