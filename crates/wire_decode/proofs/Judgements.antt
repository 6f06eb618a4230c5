-- Parts of a body that stand side by side: which rule is the first.
use Rattle.std.proofs.Common.{◌≡◌, ℕ, Bool, true, false, cond, nat_le, List, [], ◌∷◌, ◌++◌, Ok, Err, IfOk, eqb, refl, sym, ap, subst, ◌∙◌, append_assoc, arith}
use Rattle.std.proofs.lemmas.Bool.Decides.{nat_tests}
use Rattle.std.specs.List.{AllByRecursion}
use Rattle.serde_json.specs.Data.{Data, Items, item}
use Rattle.wire_decode.specs.declared.rule.Rule.{Rule}
use Rattle.wire_decode.specs.declared.rule.Rule.TheVariants.{W02}
use Rattle.wire_decode.specs.Judgement.{Judgement, rule_number, first_rule, both, one_before, some_before}
use Rattle.wire_decode.specs.Members.{each, exactly, member_count}

left_first : (left right : Rule) → nat_le (rule_number left) (rule_number right) ≡ true → first_rule left right ≡ left
left_first left right is = ap (λ test. cond test left right) is

right_first : (left right : Rule) → nat_le (rule_number left) (rule_number right) ≡ false → first_rule left right ≡ right
right_first left right is = ap (λ test. cond test left right) is

up : (a b c : ℕ) → nat_le a b ≡ true → nat_le b c ≡ true → nat_le a c ≡ true
up a b c p q = grind (arith, nat_tests)

down : (a b c : ℕ) → nat_le a b ≡ false → nat_le b c ≡ false → nat_le a c ≡ false
down a b c p q = grind (arith, nat_tests)

first-by : (a b c : Rule) (x y : Bool) → nat_le (rule_number a) (rule_number b) ≡ x → nat_le (rule_number b) (rule_number c) ≡ y
    → first_rule (first_rule a b) c ≡ first_rule a (first_rule b c)
first-by a b c true true p q =
    ap (λ r. first_rule r c) (left_first a b p) ∙ left_first a c (up (rule_number a) (rule_number b) (rule_number c) p q)
    ∙ sym (ap (λ r. first_rule a r) (left_first b c q) ∙ left_first a b p)
first-by a b c true false p q = ap (λ r. first_rule r c) (left_first a b p) ∙ sym (ap (λ r. first_rule a r) (right_first b c q))
first-by a b c false true p q =
    ap (λ r. first_rule r c) (right_first a b p) ∙ left_first b c q ∙ sym (ap (λ r. first_rule a r) (left_first b c q) ∙ right_first a b p)
first-by a b c false false p q =
    ap (λ r. first_rule r c) (right_first a b p) ∙ right_first b c q
    ∙ sym (ap (λ r. first_rule a r) (right_first b c q) ∙ right_first a c (down (rule_number a) (rule_number b) (rule_number c) p q))

first_of_three : (a b c : Rule) → first_rule (first_rule a b) c ≡ first_rule a (first_rule b c)
first_of_three a b c = first-by a b c (nat_le (rule_number a) (rule_number b)) (nat_le (rule_number b) (rule_number c)) refl refl

pub none_before : {A : Type 0} (others : Judgement (List A)) → some_before (Ok []) others ≡ others
none_before (Ok others) = refl
none_before (Err rule) = refl

one_more : {A : Type 0} (front : Judgement (List A)) (found : Judgement A) (others : Judgement (List A))
    → some_before (some_before front (one_before found (Ok []))) others ≡ some_before front (one_before found others)
one_more (Ok front) (Ok found) (Ok others) = ap Ok (append_assoc front (found ∷ []) others)
one_more (Ok front) (Ok found) (Err rule) = refl
one_more (Ok front) (Err rule) (Ok others) = refl
one_more (Ok front) (Err rule) (Err other) = refl
one_more (Err rule) (Ok found) (Ok others) = refl
one_more (Err rule) (Ok found) (Err other) = refl
one_more (Err rule) (Err other) (Ok others) = refl
one_more (Err rule) (Err other) (Err third) = ap Err (first_of_three rule other third)

-- one item more of a list: what was read before, the item, and the others
pub one_step : {A : Type 0} (read : Data → Judgement A) (whole front longer : Judgement (List A)) (found : Judgement A) (d : Data) (others : Items)
    → whole ≡ some_before front (each read (item d others)) → found ≡ read d → longer ≡ some_before front (one_before found (Ok []))
    → whole ≡ some_before longer (each read others)
one_step read whole front longer found d others is is_found is_longer =
    is ∙ ap (λ x. some_before front (one_before x (each read others))) (sym is_found) ∙ sym (one_more front found (each read others))
    ∙ ap (λ x. some_before x (each read others)) (sym is_longer)

all_and_one : {A : Type 0} (P : A → Type 0) (front : List A) (last : A) → AllByRecursion P front → P last → AllByRecursion P (front ++ last ∷ [])
all_and_one P [] last all holds = (holds, tt)
all_and_one P (first ∷ others) last all holds = (all.0, all_and_one P others last all.1 holds)

all_longer : {A : Type 0} (P : A → Type 0) (front : Judgement (List A)) (found : Judgement A) → IfOk front (AllByRecursion P) → IfOk found P
    → IfOk (some_before front (one_before found (Ok []))) (AllByRecursion P)
all_longer P (Ok front) (Ok found) all holds = all_and_one P front found all holds
all_longer P (Ok front) (Err rule) all holds = tt
all_longer P (Err rule) (Ok found) all holds = tt
all_longer P (Err rule) (Err other) all holds = tt

pub all_step : {A : Type 0} (P : A → Type 0) (front longer : Judgement (List A)) (found : Judgement A) → IfOk front (AllByRecursion P)
    → IfOk found P → longer ≡ some_before front (one_before found (Ok [])) → IfOk longer (AllByRecursion P)
all_step P front longer found all holds is = subst (λ x. IfOk x (AllByRecursion P)) (sym is) (all_longer P front found all holds)

-- ---- what holds of what parts say

pub right_holds : {A B : Type 0} (P : B → Type 0) (left : Judgement A) (right : Judgement B) → IfOk right P → IfOk (both left right) (λ x. P x.1)
unfolding both
right_holds P (Ok left) (Ok right) holds = holds
right_holds P (Ok left) (Err rule) holds = tt
right_holds P (Err rule) (Ok right) holds = tt
right_holds P (Err rule) (Err other) holds = tt

pub left_holds : {A B : Type 0} (P : A → Type 0) (left : Judgement A) (right : Judgement B) → IfOk left P → IfOk (both left right) (λ x. P x.0)
unfolding both
left_holds P (Ok left) (Ok right) holds = holds
left_holds P (Ok left) (Err rule) holds = tt
left_holds P (Err rule) (Ok right) holds = tt
left_holds P (Err rule) (Err other) holds = tt

counted_holds : {A : Type 0} (P : A → Type 0) (read : Judgement A) (test : Bool) → IfOk read P → IfOk (cond test read (Err W02)) P
counted_holds P read true holds = holds
counted_holds P read false holds = tt

pub exactly_holds : {A : Type 0} (P : A → Type 0) (count : ℕ) (d : Data) (read told : Judgement A) → IfOk read P → told ≡ exactly count d read
    → IfOk told P
unfolding exactly
exactly_holds P count d read told holds is = subst (λ x. IfOk x P) (sym is) (counted_holds P read (eqb (member_count d) count) holds)

-- two parts that say something say each their part of it
pub both_said : {A B : Type 0} (left : Judgement A) (right : Judgement B) (said : A × B) → both left right ≡ Ok said
    → (left ≡ Ok said.0) × (right ≡ Ok said.1)
unfolding both
both_said (Ok left) (Ok right) said e = (cc, cc)
both_said (Ok left) (Err rule) said e = absurd cc
both_said (Err rule) (Ok right) said e = absurd cc
both_said (Err rule) (Err other) said e = absurd cc
