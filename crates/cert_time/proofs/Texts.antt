-- What is written of a date and a time of day is read again, and nothing else is read.
use Rattle.std.proofs.Common.{◌≡◌, ◌≢◌, ℕ, ◌+◌, ◌*◌, ◌/◌, ◌%◌, ◌<◌, ◌≤◌, nat_lt, Bool, true, false, if◌then◌else◌, List, [], ◌∷◌, ◌++◌, Option, Some, None, option_and_then, inl, inr, refl, sym, ap, ◌∙◌, arith}
use Rattle.std.proofs.lemmas.Bool.{cases_lt, lt-ltb, le-ltb, ltb-false}
use Rattle.cert_time.specs.declared.civil.Civil.{Civil}
use Rattle.cert_time.specs.Calendar.{IsReal}
use Rattle.cert_time.specs.Time.{two_digits, text_behind_year, utc_text, generalized_text, IsTextOf}
use Rattle.cert_time.specs.Reading.{number_at, is_zone, civil_in, full_year, utc_civil, generalized_civil}
use Rattle.cert_time.proofs.Days.{real_bounds}

-- ---- a number in two digits

number_again : (n : ℕ) (rest : List ℕ) → n < 100 → number_at (two_digits n ++ rest) ≡ Some (n, rest)
number_again n rest low = grind arith

number_found : (bytes : List ℕ) (x : ℕ × List ℕ) → number_at bytes ≡ Some x → (x.0 < 100) × (bytes ≡ two_digits x.0 ++ x.1)
number_found [] x e = absurd (cc e)
number_found (a ∷ []) x e = absurd (cc e)
number_found (a ∷ b ∷ rest) x e = grind arith

-- ---- what stands behind a year

pub civil_again : (c : Civil) → IsReal c → civil_in c.year (text_behind_year c) ≡ Some c
unfolding civil_in
civil_again c real =
    let bounds = real_bounds c real in
    rw (number_again c.month _ (omega arith), number_again c.day _ (omega arith), number_again c.hour _ (omega arith), number_again c.minute _ (omega arith), number_again c.second _ (omega arith)) refl

bound : {A B P : Type 0} (o : Option A) (f : A → Option B) (y : B) → option_and_then f o ≡ Some y → ((x : A) → o ≡ Some x → f x ≡ Some y → P) → P
bound (Some x) f y e k = k x refl e
bound None f y e k = absurd (cc e)

passed : {A P : Type 0} (b : Bool) (x y : A) → (if b then Some x else None) ≡ Some y → (b ≡ true → x ≡ y → P) → P
passed true x y e k = k refl (cc e)
passed false x y e k = absurd (cc e)

zone_is : (bytes : List ℕ) → is_zone bytes ≡ true → bytes ≡ 90 ∷ []
zone_is [] e = absurd (cc e)
zone_is (z ∷ []) e = grind arith
zone_is (z ∷ b ∷ rest) e = absurd (cc e)

record IsBehind (year : ℕ) (bytes : List ℕ) (c : Civil) : Type 0 where
  same : c.year ≡ year
  text : bytes ≡ text_behind_year c

civil_found : (year : ℕ) (bytes : List ℕ) (c : Civil) → civil_in year bytes ≡ Some c → IsBehind year bytes c
unfolding civil_in
civil_found year bytes c e =
    bound (number_at bytes) _ c e (λ month m e.
    bound (number_at month.1) _ c e (λ day d e.
    bound (number_at day.1) _ c e (λ hour h e.
    bound (number_at hour.1) _ c e (λ minute n e.
    bound (number_at minute.1) _ c e (λ second s e.
    passed (is_zone second.1) _ c e (λ zone same.
    let tail : minute.1 ≡ two_digits second.0 ++ 90 ∷ [] = (number_found minute.1 second s).1 ∙ ap (λ (rest : List ℕ). two_digits second.0 ++ rest) (zone_is second.1 zone) in
    let later : hour.1 ≡ two_digits minute.0 ++ two_digits second.0 ++ 90 ∷ [] = (number_found hour.1 minute n).1 ∙ ap (λ (rest : List ℕ). two_digits minute.0 ++ rest) tail in
    let time : day.1 ≡ two_digits hour.0 ++ two_digits minute.0 ++ two_digits second.0 ++ 90 ∷ [] = (number_found day.1 hour h).1 ∙ ap (λ (rest : List ℕ). two_digits hour.0 ++ rest) later in
    let after : month.1 ≡ two_digits day.0 ++ two_digits hour.0 ++ two_digits minute.0 ++ two_digits second.0 ++ 90 ∷ [] = (number_found month.1 day d).1 ∙ ap (λ (rest : List ℕ). two_digits day.0 ++ rest) time in
    let whole : bytes ≡ two_digits month.0 ++ two_digits day.0 ++ two_digits hour.0 ++ two_digits minute.0 ++ two_digits second.0 ++ 90 ∷ [] = (number_found bytes month m).1 ∙ ap (λ (rest : List ℕ). two_digits month.0 ++ rest) after in
    record { same = sym (ap (λ (x : Civil). x.year) same); text = whole ∙ ap text_behind_year same }))))))

-- ---- texts

full_year_again : (year : ℕ) → 1950 ≤ year → year < 2050 → full_year (year % 100) ≡ year
full_year_again year from before = grind arith

full_year_found : (short : ℕ) → short < 100 → (1950 ≤ full_year short) × (full_year short < 2050) × (full_year short % 100 ≡ short)
full_year_found short low = grind arith

utc_text_again : (c : Civil) → IsReal c → 1950 ≤ c.year → c.year < 2050 → utc_civil (utc_text c) ≡ Some c
utc_text_again c real from before =
    rw (number_again (c.year % 100) (text_behind_year c) (omega arith)) (ap (λ (year : ℕ). civil_in year (text_behind_year c)) (full_year_again c.year from before) ∙ civil_again c real)

pub utc_again : (content : List ℕ) (c : Civil) → IsReal c → IsTextOf 23 content c → utc_civil content ≡ Some c
utc_again content c real is =
    elim (cases_lt c.year 2050) [
      | inl before ↦ ap utc_civil (rw (lt-ltb _ _ before) at is.spelled) ∙ utc_text_again c real is.years before
      | inr after ↦ absurd (cc (rw (le-ltb _ _ after) at is.tagged))
    ]

is_utc : (content : List ℕ) (c : Civil) → 1950 ≤ c.year → c.year < 2050 → content ≡ utc_text c → IsTextOf 23 content c
is_utc content c from before spelled = record {
  years = from;
  tagged = rw (lt-ltb _ _ before) refl;
  spelled = rw (lt-ltb _ _ before) spelled;
}

pub utc_found : (content : List ℕ) (c : Civil) → utc_civil content ≡ Some c → IsTextOf 23 content c
utc_found content c e =
    bound (number_at content) _ c e (λ year n e.
    let number = number_found content year n in
    let behind = civil_found (full_year year.0) year.1 c e in
    let full = full_year_found year.0 number.0 in
    let short : year.0 ≡ c.year % 100 = sym full.2 ∙ ap (λ (y : ℕ). y % 100) (sym behind.same) in
    is_utc content c (omega (arith, full.0, behind.same)) (omega (arith, full.1, behind.same)) (number.1 ∙ ap (λ (y : ℕ). two_digits y ++ year.1) short ∙ ap (λ (rest : List ℕ). two_digits (c.year % 100) ++ rest) behind.text))

generalized_text_again : (c : Civil) → IsReal c → 2050 ≤ c.year → generalized_civil (generalized_text c) ≡ Some c
generalized_text_again c real from =
    let bounds = real_bounds c real in
    let whole : 100 * (c.year / 100) + c.year % 100 ≡ c.year = omega arith in
    rw (number_again (c.year / 100) (utc_text c) (omega arith), number_again (c.year % 100) (text_behind_year c) (omega arith), whole, le-ltb c.year 2050 from) (civil_again c real)

pub generalized_again : (content : List ℕ) (c : Civil) → IsReal c → IsTextOf 24 content c → generalized_civil content ≡ Some c
generalized_again content c real is =
    elim (cases_lt c.year 2050) [
      | inl before ↦ absurd (cc (rw (lt-ltb _ _ before) at is.tagged))
      | inr after ↦ ap generalized_civil (rw (le-ltb _ _ after) at is.spelled) ∙ generalized_text_again c real after
    ]

is_generalized : (content : List ℕ) (c : Civil) → 2050 ≤ c.year → content ≡ generalized_text c → IsTextOf 24 content c
is_generalized content c from spelled = record {
  years = omega arith;
  tagged = rw (le-ltb _ _ from) refl;
  spelled = rw (le-ltb _ _ from) spelled;
}

refused : {A P : Type 0} (b : Bool) (o : Option A) (y : A) → (if b then None else o) ≡ Some y → (b ≡ false → o ≡ Some y → P) → P
refused true o y e k = absurd (cc e)
refused false o y e k = k refl e

pub generalized_found : (content : List ℕ) (c : Civil) → generalized_civil content ≡ Some c → IsTextOf 24 content c
generalized_found content c e =
    bound (number_at content) _ c e (λ century n e.
    bound (number_at century.1) _ c e (λ year m e.
    refused (nat_lt (100 * century.0 + year.0) 2050) _ c e (λ late e.
    let first = number_found content century n in
    let second = number_found century.1 year m in
    let behind = civil_found (100 * century.0 + year.0) year.1 c e in
    let high : century.0 ≡ c.year / 100 = omega (arith, behind.same, second.0) in
    let low : year.0 ≡ c.year % 100 = omega (arith, behind.same, second.0) in
    let from : 2050 ≤ 100 * century.0 + year.0 = ltb-false _ _ late in
    let tail : century.1 ≡ utc_text c = second.1 ∙ ap (λ (y : ℕ). two_digits y ++ year.1) low ∙ ap (λ (rest : List ℕ). two_digits (c.year % 100) ++ rest) behind.text in
    is_generalized content c (omega (arith, from, behind.same)) (first.1 ∙ ap (λ (y : ℕ). two_digits y ++ century.1) high ∙ ap (λ (rest : List ℕ). two_digits (c.year / 100) ++ rest) tail))))

pub no_other_tag : (tag : ℕ) (content : List ℕ) (c : Civil) → IsTextOf tag content c → tag ≢ 23 → tag ≢ 24 → ⊥
no_other_tag tag content c is utc generalized =
    elim (cases_lt c.year 2050) [
      | inl before ↦ utc (is.tagged ∙ rw (lt-ltb _ _ before) refl)
      | inr after ↦ generalized (is.tagged ∙ rw (le-ltb _ _ after) refl)
    ]
