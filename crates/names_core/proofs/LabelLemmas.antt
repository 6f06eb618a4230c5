-- Labels of letters, digits, hyphens and asterisks: they are ASCII in lower case, where what decodes encodes to itself.
use Rattle.std.proofs.Common.{◌≡◌, ℕ, ◌<◌, Bool, true, false, not, List, length, get_or, Some, All, ap, ◌∙◌, inl, inr, lit<, arith}
use Rattle.std.specs.Char.{is_ascii_uppercase}
use Rattle.std.specs.List.{list_any}
use Rattle.std.specs.Str.{IsAscii}
use Rattle.std.proofs.lemmas.Bool.{both_ways, cases_lt, false_from_ne_true}
use Rattle.std.proofs.lemmas.Bool.Decides.{nat_tests}
use Rattle.std.proofs.lemmas.List.{get_or_past}
use Rattle.std.proofs.lemmas.List.Folds.{list_any_at}
use Rattle.std.proofs.lemmas.Slice.Eq.{bytes_eq-Decides}
use Rattle.idna.specs.Punycode.{decode, encode}
use Rattle.idna.proofs.PunycodeCanonical.{encode-decode}
use Rattle.names_core.specs.Label.{is_label_byte, has_bad_byte, encodes_to, is_punycode}

-- where no element passes, each fails
pub fails_each : {X : Type 0} (p : X → Bool) (xs : List X) → list_any p xs ≡ false → All (λ x. p x ≡ false) xs
fails_each p xs none k d within = false_from_ne_true _ (λ passes. both_ways _ none (list_any_at p xs k d within passes))

below_128 : (byte : ℕ) → not (is_label_byte byte) ≡ false → byte < 128
below_128 byte plain = grind (arith, nat_tests)

not_uppercase : (byte : ℕ) → not (is_label_byte byte) ≡ false → is_ascii_uppercase byte ≡ false
not_uppercase byte plain = grind (arith, nat_tests)

pub IsAscii-plain : (text : List ℕ) → has_bad_byte text ≡ false → IsAscii text
IsAscii-plain text plain i =
    elim (cases_lt i (length text)) [
      | inl within ↦ below_128 _ (fails_each _ text plain i 0 within)
      | inr past ↦ rw (get_or_past text i 0 past) (lit< tt)
    ]

pub is_punycode-decoded : (text points : List ℕ) → has_bad_byte text ≡ false → decode text ≡ Some points → is_punycode text ≡ true
is_punycode-decoded text points plain decoded =
    ap (encodes_to text) decoded
    ∙ (bytes_eq-Decides (encode points) text).1 (encode-decode text points (λ k d within. not_uppercase (get_or text k d) (fails_each _ text plain k d within)) decoded)
