-- Lists of broken rules.
use Rattle.std.proofs.Common.{arith, ◌≡◌, ◌⊎◌, inl, inr, ℕ, nat_lt, Bool, true, false, ◌&&◌, List, [], ◌∷◌, ◌++◌, map, refl, sym, ap, ◌∙◌, append_assoc}
use Rattle.gate_base.specs.declared.profile.Profile.{Profile}
use Rattle.gate_base.specs.declared.moment.Moment.{Moment}
use Rattle.names_core.specs.declared.rule.Rule.{Rule}
use Rattle.profile_lint.specs.Contents.{Contents, Says}
use Rattle.profile_lint.specs.Lint.{numbered, broken, Has, HasBroken, HasNoShape, IsListOf, IsLint, is_above, is_rising, rows, head_rows, time_rows, subject_rows, key_rows, name_rows, usage_rows, issuer_rows}

pub broken_append : (front back : List (ℕ × Bool)) → broken (front ++ back) ≡ broken front ++ broken back
broken_append [] back = refl
broken_append (row ∷ others) back =
    ap (λ (r : List ℕ). numbered row.1 row.0 ++ r) (broken_append others back) ∙ sym (append_assoc (numbered row.1 row.0) (broken others) (broken back))

-- ---- which numbers are told

told_one : (n : ℕ) (row : ℕ × Bool) (b : Bool) (others : List ℕ) → row.1 ≡ b
    → Has (numbered b row.0 ++ others) n → ((row.0 ≡ n) × (row.1 ≡ true)) ⊎ Has others n
told_one n row true others e (inl same) = inl (same, e)
told_one n row true others e (inr later) = inr later
told_one n row false others e later = inr later

told : (all : List (ℕ × Bool)) (n : ℕ) → Has (broken all) n → HasBroken all n
told [] n none = none
told (row ∷ others) n has = elim (told_one n row row.1 (broken others) refl has) [ inl here ↦ inl here | inr later ↦ inr (told others n later) ]

heard_one : (n : ℕ) (row : ℕ × Bool) (b : Bool) (others : List ℕ) → row.1 ≡ b
    → ((row.0 ≡ n) × (row.1 ≡ true)) ⊎ Has others n → Has (numbered b row.0 ++ others) n
heard_one n row true others e (inl here) = inl here.0
heard_one n row true others e (inr later) = inr later
heard_one n row false others e (inl here) = absurd (cc (e, here.1))
heard_one n row false others e (inr later) = later

heard : (all : List (ℕ × Bool)) (n : ℕ) → HasBroken all n → Has (broken all) n
heard [] n none = none
heard (row ∷ others) n (inl here) = heard_one n row row.1 (broken others) refl (inl here)
heard (row ∷ others) n (inr later) = heard_one n row row.1 (broken others) refl (inr (heard others n later))

-- ---- that the numbers rise

and_true : (a b : Bool) → (a && b) ≡ true → (a ≡ true) × (b ≡ true)
and_true true b both = (refl, both)
and_true false b both = absurd (cc both)

above_less : (n m : ℕ) (list : List ℕ) → nat_lt n m ≡ true → is_above m list ≡ true → is_above n list ≡ true
above_less n m [] less above = refl
above_less n m (first ∷ others) less above = grind (arith, less, above)

above_one : (n : ℕ) (row : ℕ × Bool) (b : Bool) (told : List ℕ) → nat_lt n row.0 ≡ true
    → is_above row.0 told ≡ true → is_above n (numbered b row.0 ++ told) ≡ true
above_one n row true told less above = cc (less, above)
above_one n row false told less above = above_less n row.0 told less above

broken_above : (n : ℕ) (all : List (ℕ × Bool)) → is_above n (map (λ row. row.0) all) ≡ true
    → is_above n (broken all) ≡ true
broken_above n [] above = refl
broken_above n (row ∷ others) above =
    let parts = and_true (nat_lt n row.0) (is_above row.0 (map (λ row. row.0) others)) above in
    above_one n row row.1 (broken others) parts.0 (broken_above row.0 others parts.1)

rising : (n : ℕ) (list : List ℕ) → is_above n list ≡ true → is_rising list ≡ true
rising n [] above = refl
rising n (first ∷ others) above = (and_true (nat_lt n first) (is_above first others) above).1

rows_rise : (c : Contents) (profile : Profile) (suffixes : List Rule) (moment : Moment)
    → is_above 0 (map (λ row. row.0) (rows c profile suffixes moment)) ≡ true
unfolding head_rows time_rows subject_rows key_rows name_rows usage_rows issuer_rows
rows_rise c profile suffixes moment = refl

-- ---- both

abbrev OneReading : List ℕ → Type 0
OneReading bytes = (c other : Contents) → Says bytes c → Says bytes other → c ≡ other

no_shape : (bytes : List ℕ) (profile : Profile) (suffixes : List Rule) (moment : Moment) → HasNoShape bytes
    → IsLint bytes profile suffixes moment (0 ∷ [])
no_shape bytes profile suffixes moment none = record {
  exact = λ n. (
    λ has. elim has [ inl same ↦ inl (sym same, none) | inr later ↦ absurd later ],
    λ is. elim is [ inl zero ↦ inl (sym zero.0) | inr said ↦ absurd (none said.0.body said.1.body) ],
  );
  rising = refl;
}

by_rows : (bytes : List ℕ) (profile : Profile) (suffixes : List Rule) (moment : Moment) (c : Contents)
    → OneReading bytes → Says bytes c
    → IsLint bytes profile suffixes moment (broken (rows c profile suffixes moment))
by_rows bytes profile suffixes moment c one says = record {
  exact = λ n. (
    λ has. inr (c, says, told (rows c profile suffixes moment) n has),
    λ is. elim is [
      | inl zero ↦ absurd (zero.1 c.body says.body)
      | inr said ↦ heard (rows c profile suffixes moment) n (rw (one c said.0 says said.1) said.2)
    ],
  );
  rising = rising 0 (broken (rows c profile suffixes moment)) (broken_above 0 (rows c profile suffixes moment) (rows_rise c profile suffixes moment));
}

pub lint_of : (bytes : List ℕ) (profile : Profile) (suffixes : List Rule) (moment : Moment) (list : List ℕ)
    → ((bytes : List ℕ) → OneReading bytes) → IsListOf bytes profile suffixes moment list
    → IsLint bytes profile suffixes moment list
lint_of bytes profile suffixes moment list one (inl none) = rw none.1 (no_shape bytes profile suffixes moment none.0)
lint_of bytes profile suffixes moment list one (inr said) = rw said.2 (by_rows bytes profile suffixes moment said.0 (one bytes) said.1)
