-- What is read of the body of a plan, by the reader that the rules stand on. The sections are those of RFC 5280.
use Rattle.std.specs.Prelude.{◌≡◌, ℕ, pos, not, false, List, [], ◌∷◌, Some, map, if◌then◌else◌}
use Rattle.der_text.specs.Tree.{spelling}
use Rattle.public_key.specs.Key.{AreBitsOf, algorithm_bytes as key_algorithm_bytes}
use Rattle.cert_time.specs.Time.{IsTimeText}
use Rattle.tbs_build.specs.Body.{common_name_type, first_text}
use Rattle.tbs_build.specs.Certificate.{algorithm_bytes}
use Rattle.tbs_build.specs.Extension.{Extension as Built, extensions_of}
use Rattle.tbs_build.specs.Plan.{Plan}
use Rattle.tbs_shape.specs.Body.{Body, Attribute, Extension, Primitive}

-- an extension as it is read: its string's content is what its value spells (section 4.2)
abbrev pub extension_read : Built → Extension
extension_read e = record { identifier = e.identifier; critical = e.critical; value = spelling e.value }

-- a commonName, a UTF8String (section 4.1.2.6)
abbrev pub common_name_read : List ℕ → Attribute
common_name_read text = record { identifier = common_name_type; value = record { tag = 12; content = text } }

abbrev pub subject_read : Plan → List Attribute
subject_read plan = if plan.common then common_name_read (first_text plan.targets) ∷ [] else []

-- the time says this moment and no other (section 4.1.2.5)
abbrev pub IsTimeOf : Primitive → ℕ → Type 0
IsTimeOf time moment = IsTimeText time.tag time.content (pos moment)

-- Each part of the body says the plan's value (section 4.1). The version is 3, which is the number 2, there is no
-- unique identifier, and the key's bits, behind the number of unused ones, are those of a good key of the plan's kind.
pub record SaysPlan (plan : Plan) (body : Body) : Type 0 where
  pub version : body.version ≡ Some (2 ∷ [])
  pub serial : body.serial ≡ plan.serial
  pub algorithm : body.algorithm ≡ algorithm_bytes plan.profile.alg
  pub issuer : body.issuer ≡ plan.profile.issuer
  pub not_before : IsTimeOf body.not_before plan.not_before
  pub not_after : IsTimeOf body.not_after plan.not_after
  pub subject_is_empty : body.subject_is_empty ≡ not plan.common
  pub subject : body.subject ≡ subject_read plan
  pub key_algorithm : body.key_algorithm ≡ key_algorithm_bytes plan.kind
  pub bits : List ℕ
  pub key_bits : body.key_bits ≡ 0 ∷ bits
  pub good_bits : AreBitsOf plan.kind bits
  pub no_unique_id : body.has_unique_id ≡ false
  pub extensions : body.extensions ≡ Some (map extension_read (extensions_of plan))
