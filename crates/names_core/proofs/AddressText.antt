-- An address is read from its own text alone.
use Rattle.std.proofs.Common.{◌≡◌, ℕ, ◌+◌, ◌-◌, ◌*◌, ◌/◌, ◌%◌, ◌<◌, ◌≤◌, Bool, true, false, cond, ◌&&◌, ◌==◌, nat_le, List, [], ◌∷◌, ◌++◌, length, map, Option, Some, None, refl, sym, ap, ap₂, subst, ◌∙◌, inl, inr, arith}
use Rattle.std.specs.Char.{is_ascii_digit}
use Rattle.std.specs.Option.{option_map, option_and_then}
use Rattle.std.specs.List.{join_with_byte, slice_split}
use Rattle.std.proofs.lemmas.Bool.{and_parts, cases_Bool, cond-true, cond-false}
use Rattle.std.proofs.lemmas.Bool.Decides.{nat_tests}
use Rattle.std.proofs.lemmas.List.Splits.{join_with_byte-slice_split}
use Rattle.std.proofs.lemmas.Option.{none-some, same_Some}
use Rattle.names_core.specs.Address.{read_each, exactly, octet_text, v4_text, is_leading, octet_of, v4_of, hex_digit_of, hex_text, group_texts, v6_text, is_hex_digit, hex_value, group_of, v6_of}

-- a reader of parts, and the parts that are written for what was read
module _ (read : List ℕ → Option (List ℕ)) (texts : List ℕ → List (List ℕ)) (none : texts [] ≡ []) (one : (part front back : List ℕ) → read part ≡ Some front → texts (front ++ back) ≡ part ∷ texts back) where
  texts-step : (part : List ℕ) (parts : List (List ℕ)) (octets : List ℕ) (first rest : Option (List ℕ)) → read part ≡ first → ((back : List ℕ) → rest ≡ Some back → texts back ≡ parts) → option_and_then (λ front. option_map (λ back. front ++ back) rest) first ≡ Some octets → texts octets ≡ part ∷ parts
  texts-step part parts octets None rest is later found = absurd (none-some octets found)
  texts-step part parts octets (Some front) None is later found = absurd (none-some octets found)
  texts-step part parts octets (Some front) (Some back) is later found =
      ap texts (sym (same_Some _ _ found)) ∙ one part front back is ∙ ap (λ others. part ∷ others) (later back refl)

  texts-read_each : (parts : List (List ℕ)) (octets : List ℕ) → read_each read parts ≡ Some octets → texts octets ≡ parts
  texts-read_each [] octets found = ap texts (sym (same_Some [] octets found)) ∙ none
  texts-read_each (part ∷ parts) octets found =
      texts-step part parts octets (read part) (read_each read parts) refl (λ back. texts-read_each parts back) found

exactly-some : (count : ℕ) (read : Option (List ℕ)) (octets : List ℕ) → option_and_then (exactly count) read ≡ Some octets → read ≡ Some octets
exactly-some count None octets found = absurd (none-some octets found)
exactly-some count (Some all) octets found =
    elim (cases_Bool (length all == count)) [
      | inl right ↦ sym (cond-true (length all == count) (Some all) None right) ∙ found
      | inr wrong ↦ absurd (none-some octets (sym (cond-false (length all == count) (Some all) None wrong) ∙ found))
    ]

-- what a reader that tests and answers gave
passed : (test : Bool) (answer octets : List ℕ) → cond test (Some answer) None ≡ Some octets → (test ≡ true) × (answer ≡ octets)
passed true answer octets found = (refl, same_Some answer octets found)
passed false answer octets found = absurd (none-some octets found)

-- ---- decimal

octet_text-one : (n : ℕ) → n < 10 → octet_text n ≡ (48 + n) ∷ []
octet_text-one n small = grind (arith, nat_tests)

octet_text-two : (n a b : ℕ) → 0 < a → a < 10 → b < 10 → n ≡ 10 * a + b → octet_text n ≡ (48 + a) ∷ (48 + b) ∷ []
octet_text-two n a b some small_a small_b is = grind (arith, nat_tests)

octet_text-three : (n a b c : ℕ) → 0 < a → a < 10 → b < 10 → c < 10 → n ≡ 100 * a + 10 * b + c → octet_text n ≡ (48 + a) ∷ (48 + b) ∷ (48 + c) ∷ []
octet_text-three n a b c some small_a small_b small_c is = grind (arith, nat_tests)

digit_bounds : (a : ℕ) → is_ascii_digit a ≡ true → (48 ≤ a) × (a ≤ 57)
digit_bounds a digit = (grind (arith, nat_tests), grind (arith, nat_tests))

leading_bounds : (a : ℕ) → is_leading a ≡ true → (49 ≤ a) × (a ≤ 57)
leading_bounds a digit = (grind (arith, nat_tests), grind (arith, nat_tests))

back_to : (a : ℕ) → 48 ≤ a → 48 + (a - 48) ≡ a
back_to a low = omega arith

one_digit : (a : ℕ) → is_ascii_digit a ≡ true → octet_text (a - 48) ≡ a ∷ []
one_digit a is_digit =
    let bounds = digit_bounds a is_digit in
    octet_text-one (a - 48) (omega (arith, bounds.1)) ∙ ap (λ x. x ∷ []) (back_to a bounds.0)

two_digits : (a b : ℕ) → (is_leading a && is_ascii_digit b) ≡ true → octet_text (10 * (a - 48) + (b - 48)) ≡ a ∷ b ∷ []
two_digits a b are =
    let parts = and_parts (is_leading a) (is_ascii_digit b) are in
    let first = leading_bounds a parts.0 in
    let second = digit_bounds b parts.1 in
    octet_text-two (10 * (a - 48) + (b - 48)) (a - 48) (b - 48) (omega (arith, first.0)) (omega (arith, first.1)) (omega (arith, second.1)) refl
    ∙ ap₂ (λ x y. x ∷ y ∷ []) (back_to a (omega (arith, first.0))) (back_to b second.0)

three_digits : (a b c : ℕ) → ((is_leading a && is_ascii_digit b) && is_ascii_digit c) ≡ true → octet_text (100 * (a - 48) + 10 * (b - 48) + (c - 48)) ≡ a ∷ b ∷ c ∷ []
three_digits a b c are =
    let parts = and_parts (is_leading a && is_ascii_digit b) (is_ascii_digit c) are in
    let front = and_parts (is_leading a) (is_ascii_digit b) parts.0 in
    let first = leading_bounds a front.0 in
    let second = digit_bounds b front.1 in
    let third = digit_bounds c parts.1 in
    octet_text-three (100 * (a - 48) + 10 * (b - 48) + (c - 48)) (a - 48) (b - 48) (c - 48) (omega (arith, first.0)) (omega (arith, first.1)) (omega (arith, second.1)) (omega (arith, third.1)) refl
    ∙ (λ i. back_to a (omega (arith, first.0)) i ∷ back_to b second.0 i ∷ back_to c third.0 i ∷ [])

octet-one : (part front back : List ℕ) → octet_of part ≡ Some front → map octet_text (front ++ back) ≡ part ∷ map octet_text back
octet-one [] front back found = absurd (none-some front found)
octet-one (a ∷ []) front back found =
    let p = passed (is_ascii_digit a) ((a - 48) ∷ []) front found in
    subst (λ octets. map octet_text (octets ++ back) ≡ (a ∷ []) ∷ map octet_text back) p.1 (ap (λ text. text ∷ map octet_text back) (one_digit a p.0))
octet-one (a ∷ b ∷ []) front back found =
    let p = passed (is_leading a && is_ascii_digit b) ((10 * (a - 48) + (b - 48)) ∷ []) front found in
    subst (λ octets. map octet_text (octets ++ back) ≡ (a ∷ b ∷ []) ∷ map octet_text back) p.1 (ap (λ text. text ∷ map octet_text back) (two_digits a b p.0))
octet-one (a ∷ b ∷ c ∷ []) front back found =
    let value = 100 * (a - 48) + 10 * (b - 48) + (c - 48) in
    let p = passed ((is_leading a && is_ascii_digit b && is_ascii_digit c) && nat_le value 255) (value ∷ []) front found in
    let digits = and_parts (is_leading a && is_ascii_digit b && is_ascii_digit c) (nat_le value 255) p.0 in
    subst (λ octets. map octet_text (octets ++ back) ≡ (a ∷ b ∷ c ∷ []) ∷ map octet_text back) p.1 (ap (λ text. text ∷ map octet_text back) (three_digits a b c digits.0))
octet-one (a ∷ b ∷ c ∷ d ∷ more) front back found = absurd (none-some front found)

pub v4_text-of : (text octets : List ℕ) → v4_of text ≡ Some octets → v4_text octets ≡ text
v4_text-of text octets found =
    let parts = slice_split (λ byte. byte == 46) text in
    ap (join_with_byte 46) (texts-read_each octet_of (map octet_text) refl octet-one parts octets (exactly-some 4 (read_each octet_of parts) octets found))
    ∙ join_with_byte-slice_split 46 text

-- ---- hexadecimal

hex_back : (a : ℕ) → is_hex_digit a ≡ true → hex_digit_of (hex_value a) ≡ a
hex_back a digit = grind (arith, nat_tests)

hex_small : (a : ℕ) → is_hex_digit a ≡ true → hex_value a < 16
hex_small a digit = grind (arith, nat_tests)

high_of : (u v : ℕ) → v < 16 → (16 * u + v) / 16 ≡ u
high_of u v small = omega arith

low_of : (u v : ℕ) → v < 16 → (16 * u + v) % 16 ≡ v
low_of u v small = omega arith

hex_pair : (a b : ℕ) → is_hex_digit a ≡ true → is_hex_digit b ≡ true → hex_text (16 * hex_value a + hex_value b) ≡ a ∷ b ∷ []
hex_pair a b first second =
    let small = hex_small b second in
    ap₂ (λ x y. hex_digit_of x ∷ hex_digit_of y ∷ []) (high_of (hex_value a) (hex_value b) small) (low_of (hex_value a) (hex_value b) small)
    ∙ ap₂ (λ x y. x ∷ y ∷ []) (hex_back a first) (hex_back b second)

group-one : (part front back : List ℕ) → group_of part ≡ Some front → group_texts (front ++ back) ≡ part ∷ group_texts back
group-one [] front back found = absurd (none-some front found)
group-one (a ∷ []) front back found = absurd (none-some front found)
group-one (a ∷ b ∷ []) front back found = absurd (none-some front found)
group-one (a ∷ b ∷ c ∷ []) front back found = absurd (none-some front found)
group-one (a ∷ b ∷ c ∷ d ∷ []) front back found =
    let first = 16 * hex_value a + hex_value b in
    let second = 16 * hex_value c + hex_value d in
    let p = passed (is_hex_digit a && is_hex_digit b && is_hex_digit c && is_hex_digit d) (first ∷ second ∷ []) front found in
    let fourth = and_parts (is_hex_digit a && is_hex_digit b && is_hex_digit c) (is_hex_digit d) p.0 in
    let third = and_parts (is_hex_digit a && is_hex_digit b) (is_hex_digit c) fourth.0 in
    let two = and_parts (is_hex_digit a) (is_hex_digit b) third.0 in
    subst (λ octets. group_texts (octets ++ back) ≡ (a ∷ b ∷ c ∷ d ∷ []) ∷ group_texts back) p.1
    (ap₂ (λ x y. (x ++ y) ∷ group_texts back) (hex_pair a b two.0 two.1) (hex_pair c d third.1 fourth.1))
group-one (a ∷ b ∷ c ∷ d ∷ e ∷ more) front back found = absurd (none-some front found)

pub v6_text-of : (text octets : List ℕ) → v6_of text ≡ Some octets → v6_text octets ≡ text
v6_text-of text octets found =
    let parts = slice_split (λ byte. byte == 58) text in
    ap (join_with_byte 58) (texts-read_each group_of group_texts refl group-one parts octets (exactly-some 16 (read_each group_of parts) octets found))
    ∙ join_with_byte-slice_split 58 text
