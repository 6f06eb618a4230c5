-- What a part of a body says, or the first rule that it breaks. Parts that stand side by side are all judged, so that the first
-- rule of the whole is told; what a part holds is judged only where the part is of its kind.
use Rattle.std.specs.Prelude.{ℕ, List, ◌∷◌, ◌++◌, Option, Some, None, Result, Ok, Err, nat_le, if◌then◌else◌}
use Rattle.wire_decode.specs.declared.rule.Rule.{Rule}
use Rattle.wire_decode.specs.declared.rule.Rule.TheVariants.{W01, W02, W03, W04, W05, W06}

abbrev pub Judgement : Type 0 → Type 0
Judgement A = Result A Rule

abbrev pub rule_number : Rule → ℕ
rule_number W01 = 1
rule_number W02 = 2
rule_number W03 = 3
rule_number W04 = 4
rule_number W05 = 5
rule_number W06 = 6

abbrev pub first_rule : Rule → Rule → Rule
first_rule left right = if nat_le (rule_number left) (rule_number right) then left else right

-- two parts side by side
unfoldable pub both : {A B : Type 0} → Judgement A → Judgement B → Judgement (A × B)
both (Ok left) (Ok right) = Ok (left, right)
both (Ok left) (Err rule) = Err rule
both (Err rule) (Ok right) = Err rule
both (Err rule) (Err other) = Err (first_rule rule other)

-- a part that is judged by what another one says
infixl 10 ◌>>=◌
abbrev pub ◌>>=◌ : {A B : Type 0} → Judgement A → (A → Judgement B) → Judgement B
(Ok value) >>= f = f value
(Err rule) >>= f = Err rule

-- what is made of what a part says
unfoldable pub judged : {A B : Type 0} → (A → B) → Judgement A → Judgement B
judged f read = read >>= λ value. Ok (f value)

-- what a function returned, seen by view
abbrev pub viewed : {A B : Type 0} → (A → B) → Judgement A → Judgement B
viewed view (Ok value) = Ok (view value)
viewed view (Err rule) = Err rule

-- where there is nothing, or only a fault, this rule is broken
abbrev pub some_or : {A : Type 0} → Rule → Option A → Judgement A
some_or rule (Some value) = Ok value
some_or rule None = Err rule

abbrev pub ok_or : {A E : Type 0} → Rule → Result A E → Judgement A
ok_or rule (Ok value) = Ok value
ok_or rule (Err fault) = Err rule

-- a part before others in a list, and some before others
abbrev pub one_before : {A : Type 0} → Judgement A → Judgement (List A) → Judgement (List A)
one_before (Ok first) (Ok others) = Ok (first ∷ others)
one_before (Ok first) (Err rule) = Err rule
one_before (Err rule) (Ok others) = Err rule
one_before (Err rule) (Err other) = Err (first_rule rule other)

abbrev pub some_before : {A : Type 0} → Judgement (List A) → Judgement (List A) → Judgement (List A)
some_before (Ok front) (Ok others) = Ok (front ++ others)
some_before (Ok front) (Err rule) = Err rule
some_before (Err rule) (Ok others) = Err rule
some_before (Err rule) (Err other) = Err (first_rule rule other)
