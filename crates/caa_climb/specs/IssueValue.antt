-- The value of an issue or issuewild property (RFC 8659, section 4.2), production by production. A part that may be missing is then empty.
use Rattle.std.specs.Prelude.{◌≡◌, ℕ, Bool, true, ◌&&◌, ◌||◌, not, ◌⊎◌, List, [], ◌∷◌, ◌++◌, nat_le, ◌==◌, replicate}
use Rattle.std.specs.List.{AllByRecursion, flat_map, join_with_byte}
use Rattle.std.specs.Char.{is_ascii_alphanumeric}

-- WSP: a space or a tab
abbrev pub is_blank : ℕ → Bool
is_blank b = b == 32 || b == 9

-- a byte of a value: %x21-3A / %x3C-7E
abbrev pub is_value_byte : ℕ → Bool
is_value_byte b = nat_le 33 b && (nat_le b 126 && not (b == 59))

-- each byte passes the test
abbrev pub AllBytes : (ℕ → Bool) → List ℕ → Type 0
AllBytes test bytes = AllByRecursion (λ b. test b ≡ true) bytes

-- *("-") (ALPHA / DIGIT): some hyphens, and a letter or digit behind them
pub record Run : Type 0 where
  pub hyphens : ℕ
  pub last : ℕ

abbrev pub print_run : Run → List ℕ
print_run run = replicate run.hyphens 45 ++ run.last ∷ []

-- label, and tag: (ALPHA / DIGIT) *( *("-") (ALPHA / DIGIT))
pub record IsLabel (bytes : List ℕ) : Type 0 where
  pub first : ℕ
  pub runs : List Run
  pub first_is : is_ascii_alphanumeric first ≡ true
  pub runs_are : AllByRecursion (λ run. is_ascii_alphanumeric run.last ≡ true) runs
  pub printed : bytes ≡ first ∷ flat_map print_run runs

-- issuer-domain-name: label *("." label)
pub record IsDomain (bytes : List ℕ) : Type 0 where
  pub first : List ℕ
  pub others : List (List ℕ)
  pub labels : AllByRecursion IsLabel (first ∷ others)
  pub printed : bytes ≡ join_with_byte 46 (first ∷ others)

-- parameter: tag *WSP "=" *WSP value
pub record Parameter : Type 0 where
  pub tag : List ℕ
  pub before : List ℕ
  pub after : List ℕ
  pub value : List ℕ

pub record IsParameter (p : Parameter) : Type 0 where
  pub tag : IsLabel p.tag
  pub before : AllBytes is_blank p.before
  pub after : AllBytes is_blank p.after
  pub value : AllBytes is_value_byte p.value

abbrev pub print_parameter : Parameter → List ℕ
print_parameter p = p.tag ++ p.before ++ 61 ∷ p.after ++ p.value

-- parameters: (parameter *WSP ";" *WSP parameters) / parameter
pub data Parameters : Type 0 where
  one : Parameter → Parameters
  also : Parameter → (before after : List ℕ) → Parameters → Parameters

abbrev pub AreParameters : Parameters → Type 0
AreParameters (one p) = IsParameter p
AreParameters (also p before after others) =
    IsParameter p × AllBytes is_blank before × AllBytes is_blank after × AreParameters others

abbrev pub print_parameters : Parameters → List ℕ
print_parameters (one p) = print_parameter p
print_parameters (also p before after others) = print_parameter p ++ before ++ 59 ∷ after ++ print_parameters others

abbrev pub last_value : Parameters → List ℕ
last_value (one p) = p.value
last_value (also p before after others) = last_value others

-- *WSP [issuer-domain-name *WSP]
pub record IsFront (bytes issuer : List ℕ) : Type 0 where
  pub lead : List ℕ
  pub trail : List ℕ
  pub lead_is : AllBytes is_blank lead
  pub trail_is : AllBytes is_blank trail
  pub issuer_is : (issuer ≡ []) ⊎ IsDomain issuer
  pub printed : bytes ≡ lead ++ issuer ++ trail

-- *WSP parameters *WSP. Blanks behind an "=" at the end are read as its own: they belong to the parameters.
pub record IsParameterPart (bytes parameters : List ℕ) : Type 0 where
  pub lead : List ℕ
  pub tree : Parameters
  pub trail : List ℕ
  pub lead_is : AllBytes is_blank lead
  pub tree_is : AreParameters tree
  pub trail_is : AllBytes is_blank trail
  pub greedy : last_value tree ≡ [] → trail ≡ []
  pub parameters_are : parameters ≡ print_parameters tree
  pub printed : bytes ≡ lead ++ parameters ++ trail

-- what stands behind the semicolon: *WSP [parameters *WSP]
abbrev pub IsBack : List ℕ → List ℕ → Type 0
IsBack bytes parameters = (AllBytes is_blank bytes × (parameters ≡ [])) ⊎ IsParameterPart bytes parameters

-- issue-value: *WSP [issuer-domain-name *WSP] [";" *WSP [parameters *WSP]]
pub record IsIssueValue (bytes issuer parameters : List ℕ) : Type 0 where
  pub front : List ℕ
  pub front_is : IsFront front issuer
  pub whole : ((bytes ≡ front) × (parameters ≡ [])) ⊎ ((back : List ℕ) × (bytes ≡ front ++ 59 ∷ back) × IsBack back parameters)
