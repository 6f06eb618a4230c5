-- Sizes in digits.
use Rattle.std.proofs.Common.{rules, ◌≡◌, ℕ, zero, suc, ◌<◌, ◌≤◌, true, List, [], ◌∷◌, length, arith}
use Rattle.std.specs.List.{list_all}
use Rattle.std.specs.Prelude.{IsTrue, Result, Ok, slice_index}
use Rattle.std.specs.Char.{is_ascii_digit}
use Rattle.std.specs.Str.{IsUtf8}
use Rattle.std.specs.Str.Parse.{digits_value, ParsesUnsigned}
use Rattle.std.proofs.lemmas.Str.{IsUtf8-from_ascii}
use Rattle.std.proofs.lemmas.Str.Parse.{IsNumeralModel, numerals_by_value, digits_value_short, parse_gives}
use Rattle.std.proofs.lemmas.Bool.{leb-true}
use Rattle.http_frames.proofs.Truths.{left_holds, right_holds}
use Rattle.http_frames.specs.Fields.{is_size_text}

own : IsNumeralModel (λ (ds : List ℕ). list_all is_ascii_digit ds ≡ true) (digits_value 10)
own = numerals_by_value _ (search rules)

size_short : (text : List ℕ) → IsTrue (is_size_text text) → length text ≤ 19
size_short text is = leb-true (length text) 19 (right_holds _ _ (left_holds _ _ is))

size_digits : (text : List ℕ) → IsTrue (is_size_text text) → list_all is_ascii_digit text ≡ true
size_digits text is = right_holds _ _ is

digits_ascii : (bytes : List ℕ) → list_all is_ascii_digit bytes ≡ true → (i : ℕ) → slice_index bytes i < 128
digits_ascii [] digits i = omega arith
digits_ascii (byte ∷ bytes) digits zero = omega (arith, leb-true byte 57 (right_holds _ _ (left_holds _ _ digits)))
digits_ascii (byte ∷ bytes) digits (suc i) = digits_ascii bytes (right_holds _ _ digits) i

pub size_is_text : (text : List ℕ) → IsTrue (is_size_text text) → IsUtf8 text
size_is_text text is = IsUtf8-from_ascii text (digits_ascii text (size_digits text is))

-- 19 digits are below 2 ^ 64
pub size_parses : {E : Type 0} (text : List ℕ) (r : Result ℕ E) → IsTrue (is_size_text text) → ParsesUnsigned 64 10 text r → r ≡ Ok (digits_value 10 text)
size_parses {E = E} text r is parses =
    let some : 1 ≤ length text = leb-true 1 (length text) (left_holds _ _ (left_holds _ _ is)) in
    let below = digits_value_short own text 19 (size_digits text is) (size_short text is) in
    parse_gives own {E = E} 64 text r parses (size_digits text is) (omega (arith, some)) (omega (arith, below))
