-- The list of the rules that bytes break.
use Rattle.std.specs.Prelude.{◌≡◌, ◌⊎◌, ◌↔◌, ℕ, nat_lt, Bool, true, false, ◌&&◌, IsTrue, List, [], ◌∷◌, ◌++◌}
use Rattle.gate_base.specs.Tables.{row_at}
use Rattle.gate_base.specs.declared.profile.Profile.{Profile}
use Rattle.gate_base.specs.declared.moment.Moment.{Moment}
use Rattle.names_core.specs.declared.rule.Rule.{Rule}
use Rattle.public_key.specs.Key.{kind_of}
use Rattle.tbs_shape.specs.Body.{Body}
use Rattle.tbs_shape.specs.Shape.{IsBody}
use Rattle.profile_lint.specs.Identifiers as identifiers
use Rattle.profile_lint.specs.Parts.{shown}
use Rattle.profile_lint.specs.Contents.{Contents, Says, extension_named}
use Rattle.profile_lint.specs.Names.{targets_of}
use Rattle.profile_lint.specs.Rules as rules

-- a rule's number, and whether the rule is broken
unfoldable pub head_rows : Contents → Profile → List (ℕ × Bool)
head_rows c profile =
    (1, rules.version_is_bad c.body.version)
    ∷ (2, rules.serial_is_bad c.body.serial)
    ∷ (3, rules.algorithm_is_bad c.body.algorithm profile)
    ∷ (4, rules.issuer_is_bad c.body.issuer profile)
    ∷ []

unfoldable pub time_rows : Contents → Moment → List (ℕ × Bool)
time_rows c moment =
    (5, rules.a_time_is_bad c.begins c.ends)
    ∷ (6, rules.ends_early c.begins c.ends)
    ∷ (7, rules.lasts_too_long (row_at moment.0).validity c.begins c.ends)
    ∷ (8, rules.unique_id_is_present c.body)
    ∷ []

unfoldable pub subject_rows : Contents → List (ℕ × Bool)
subject_rows c =
    (9, rules.an_attribute_is_bad c.body.subject)
    ∷ (10, rules.a_country_is_bad c.body.subject)
    ∷ (11, rules.a_common_name_is_bad (targets_of (shown c.names.tree)) c.body.subject)
    ∷ []

unfoldable pub key_rows : Contents → List (ℕ × Bool)
key_rows c =
    (12, rules.key_algorithm_is_bad (kind_of c.body.key_algorithm))
    ∷ (13, rules.modulus_is_bad (kind_of c.body.key_algorithm) c.key)
    ∷ (14, rules.exponent_is_bad (kind_of c.body.key_algorithm) c.key)
    ∷ (15, rules.point_is_bad (kind_of c.body.key_algorithm) c.body.key_bits)
    ∷ []

unfoldable pub name_rows : Contents → List Rule → List (ℕ × Bool)
name_rows c suffixes =
    (16, rules.extensions_are_bad c.body.extensions)
    ∷ (17, rules.an_extension_is_unknown c.body.extensions)
    ∷ (18, rules.names_are_absent c.names)
    ∷ (19, rules.names_are_bad c.names)
    ∷ (20, rules.a_name_is_bad (shown c.names.tree))
    ∷ (21, rules.a_name_has_no_base suffixes (targets_of (shown c.names.tree)))
    ∷ (22, rules.an_address_is_reserved (targets_of (shown c.names.tree)))
    ∷ (23, rules.names_are_wrongly_critical c.names.extension c.body.subject_is_empty)
    ∷ []

unfoldable pub usage_rows : Contents → List (ℕ × Bool)
usage_rows c =
    (24, rules.usage_is_bad c.usage)
    ∷ (25, rules.usage_is_wrong (kind_of c.body.key_algorithm) c.usage.extension)
    ∷ (26, rules.purposes_are_bad c.purposes)
    ∷ (27, rules.purposes_are_wrong c.purposes)
    ∷ (28, rules.constraints_are_bad (extension_named identifiers.basic_constraints c.body))
    ∷ (29, rules.policies_are_bad c.policies)
    ∷ []

unfoldable pub issuer_rows : Contents → Profile → List (ℕ × Bool)
issuer_rows c profile =
    (30, rules.names_are_constrained (extension_named identifiers.name_constraints c.body))
    ∷ (31, rules.authority_key_is_bad (extension_named identifiers.authority_key_identifier c.body) profile)
    ∷ (32, rules.access_is_bad c.access)
    ∷ (33, rules.points_are_bad c.points)
    ∷ (34, rules.names_are_many (shown c.names.tree))
    ∷ []

abbrev pub rows : Contents → Profile → List Rule → Moment → List (ℕ × Bool)
rows c profile suffixes moment =
    head_rows c profile ++ time_rows c moment ++ subject_rows c ++ key_rows c ++ name_rows c suffixes
    ++ usage_rows c ++ issuer_rows c profile

abbrev pub numbered : Bool → ℕ → List ℕ
numbered true n = n ∷ []
numbered false n = []

-- the numbers of the broken rules
abbrev pub broken : List (ℕ × Bool) → List ℕ
broken [] = []
broken (row ∷ others) = numbered row.1 row.0 ++ broken others

-- L00: the bytes are no DER tree of the shape of a body
abbrev pub HasNoShape : List ℕ → Type 0
HasNoShape bytes = (body : Body) → ¬ IsBody bytes body

-- where L00 is broken it stands alone
abbrev pub IsListOf : List ℕ → Profile → List Rule → Moment → List ℕ → Type 0
IsListOf bytes profile suffixes moment list =
    (HasNoShape bytes × (list ≡ 0 ∷ []))
    ⊎ ((c : Contents) × Says bytes c × (list ≡ broken (rows c profile suffixes moment)))

-- ---- the same, rule by rule

-- the list has the number
abbrev pub Has : List ℕ → ℕ → Type 0
Has [] n = ⊥
Has (first ∷ others) n = (first ≡ n) ⊎ Has others n

-- one of the rows has this number and a broken rule
abbrev pub HasBroken : List (ℕ × Bool) → ℕ → Type 0
HasBroken [] n = ⊥
HasBroken (row ∷ others) n = ((row.0 ≡ n) × (row.1 ≡ true)) ⊎ HasBroken others n

-- the rule of this number is broken
abbrev pub IsBroken : ℕ → List ℕ → Profile → List Rule → Moment → Type 0
IsBroken n bytes profile suffixes moment =
    ((n ≡ 0) × HasNoShape bytes) ⊎ ((c : Contents) × Says bytes c × HasBroken (rows c profile suffixes moment) n)

-- each number is above the one before it
abbrev pub is_above : ℕ → List ℕ → Bool
is_above n [] = true
is_above n (first ∷ others) = nat_lt n first && is_above first others

abbrev pub is_rising : List ℕ → Bool
is_rising [] = true
is_rising (first ∷ others) = is_above first others

-- the list has the numbers of the broken rules and no others, rising
pub record IsLint (bytes : List ℕ) (profile : Profile) (suffixes : List Rule) (moment : Moment) (list : List ℕ)
    : Type 0 where
  pub exact : (n : ℕ) → Has list n ↔ IsBroken n bytes profile suffixes moment
  pub rising : IsTrue (is_rising list)
