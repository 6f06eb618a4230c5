-- A text in lower case is read to the same name as the text.
use Rattle.std.proofs.Common.{◌≡◌, ℕ, ◌+◌, ◌-◌, Bool, true, false, cond, not, ◌&&◌, ◌||◌, ◌==◌, nat_eq, if◌then◌else◌, List, [], ◌∷◌, ◌++◌, length, drop, map, reverse, refl, sym, ap, ap₂, ◌∙◌, arith}
use Rattle.std.specs.Char.{is_ascii_digit, to_ascii_lowercase}
use Rattle.std.specs.List.{list_any, list_all, prefix_len, suffix_len, after_last, slice_split, onto_first}
use Rattle.std.proofs.lemmas.Bool.Decides.{nat_tests}
use Rattle.std.proofs.lemmas.List.{length-map, drop-map, map-append, reverse-append}
use Rattle.names_core.specs.Name.{is_full_stop, is_wild, without_star, in_lower_case, labels_of, first_broken, unless, name_read}
use Rattle.names_core.specs.Target.{has_colon, is_number, ends_in_number}

lower_twice : (byte : ℕ) → to_ascii_lowercase (to_ascii_lowercase byte) ≡ to_ascii_lowercase byte
lower_twice byte = grind (arith, nat_tests)

is_full_stop-lower : (byte : ℕ) → is_full_stop (to_ascii_lowercase byte) ≡ is_full_stop byte
is_full_stop-lower byte = grind (arith, nat_tests)

is_colon-lower : (byte : ℕ) → (to_ascii_lowercase byte == 58) ≡ (byte == 58)
is_colon-lower byte = grind (arith, nat_tests)

is_digit-lower : (byte : ℕ) → is_ascii_digit (to_ascii_lowercase byte) ≡ is_ascii_digit byte
is_digit-lower byte = grind (arith, nat_tests)

is_star-lower : (byte : ℕ) → nat_eq 42 (to_ascii_lowercase byte) ≡ nat_eq 42 byte
is_star-lower byte = grind (arith, nat_tests)

is_stop-lower : (byte : ℕ) → nat_eq 46 (to_ascii_lowercase byte) ≡ nat_eq 46 byte
is_stop-lower byte = grind (arith, nat_tests)

in_lower_case-twice : (text : List ℕ) → in_lower_case (in_lower_case text) ≡ in_lower_case text
in_lower_case-twice [] = refl
in_lower_case-twice (byte ∷ text) = ap₂ ◌∷◌ (lower_twice byte) (in_lower_case-twice text)

labels-twice : (labels : List (List ℕ)) → map in_lower_case (map in_lower_case labels) ≡ map in_lower_case labels
labels-twice [] = refl
labels-twice (label ∷ labels) = ap₂ ◌∷◌ (in_lower_case-twice label) (labels-twice labels)

reverse-lower : (text : List ℕ) → reverse (in_lower_case text) ≡ in_lower_case (reverse text)
reverse-lower [] = refl
reverse-lower (byte ∷ text) =
    reverse-append (to_ascii_lowercase byte ∷ []) (in_lower_case text)
    ∙ ap (λ front. front ++ to_ascii_lowercase byte ∷ []) (reverse-lower text)
    ∙ sym (map-append to_ascii_lowercase (reverse text) (byte ∷ []))
    ∙ ap in_lower_case (sym (reverse-append (byte ∷ []) text))

-- a test that does not tell the cases of a letter apart
module _ (test : ℕ → Bool) (keeps : (byte : ℕ) → test (to_ascii_lowercase byte) ≡ test byte) where
  list_any-lower : (text : List ℕ) → list_any test (in_lower_case text) ≡ list_any test text
  list_any-lower [] = refl
  list_any-lower (byte ∷ text) = ap₂ ◌||◌ (keeps byte) (list_any-lower text)

  list_all-lower : (text : List ℕ) → list_all test (in_lower_case text) ≡ list_all test text
  list_all-lower [] = refl
  list_all-lower (byte ∷ text) = ap₂ ◌&&◌ (keeps byte) (list_all-lower text)

  prefix_len-lower : (text : List ℕ) → prefix_len (λ byte. not (test byte)) (in_lower_case text) ≡ prefix_len (λ byte. not (test byte)) text
  prefix_len-lower [] = refl
  prefix_len-lower (byte ∷ text) = ap₂ (λ b n. cond (not b) (1 + n) 0) (keeps byte) (prefix_len-lower text)

  after_last-lower : (text : List ℕ) → after_last test (in_lower_case text) ≡ in_lower_case (after_last test text)
  after_last-lower text =
      ap₂ (λ len after. drop (len - after) (in_lower_case text)) (length-map text to_ascii_lowercase)
      (ap (prefix_len (λ byte. not (test byte))) (reverse-lower text) ∙ prefix_len-lower (reverse text))
      ∙ drop-map to_ascii_lowercase (length text - suffix_len (λ byte. not (test byte)) text) text

  onto-lower : (b : Bool) (byte : ℕ) (parts : List (List ℕ)) → cond b ([] ∷ map in_lower_case parts) (onto_first (to_ascii_lowercase byte) (map in_lower_case parts)) ≡ map in_lower_case (cond b ([] ∷ parts) (onto_first byte parts))
  onto-lower true byte parts = refl
  onto-lower false byte [] = refl
  onto-lower false byte (part ∷ parts) = refl

  slice_split-lower : (text : List ℕ) → slice_split test (in_lower_case text) ≡ map in_lower_case (slice_split test text)
  slice_split-lower [] = refl
  slice_split-lower (byte ∷ text) =
      ap₂ (λ b parts. cond b ([] ∷ parts) (onto_first (to_ascii_lowercase byte) parts)) (keeps byte) (slice_split-lower text)
      ∙ onto-lower (test byte) byte (slice_split test text)

is_wild-lower : (text : List ℕ) → is_wild (in_lower_case text) ≡ is_wild text
is_wild-lower [] = refl
is_wild-lower (a ∷ []) = ap (λ x. x && false) (is_star-lower a)
is_wild-lower (a ∷ b ∷ text) = ap₂ (λ x y. x && (y && true)) (is_star-lower a) (is_stop-lower b)

without_star-by : (wild : Bool) (text : List ℕ) → (if wild then drop 2 (in_lower_case text) else in_lower_case text) ≡ in_lower_case (if wild then drop 2 text else text)
without_star-by true text = drop-map to_ascii_lowercase 2 text
without_star-by false text = refl

without_star-lower : (text : List ℕ) → without_star (in_lower_case text) ≡ in_lower_case (without_star text)
without_star-lower text =
    ap (λ wild. if wild then drop 2 (in_lower_case text) else in_lower_case text) (is_wild-lower text) ∙ without_star-by (is_wild text) text

labels_of-lower : (text : List ℕ) → labels_of (in_lower_case text) ≡ labels_of text
labels_of-lower text =
    ap (λ rest. map in_lower_case (slice_split is_full_stop rest)) (without_star-lower text)
    ∙ ap (map in_lower_case) (slice_split-lower is_full_stop is_full_stop-lower (without_star text))
    ∙ labels-twice (slice_split is_full_stop (without_star text))

pub name_read-lower : (text : List ℕ) → name_read (in_lower_case text) ≡ name_read text
name_read-lower text =
    let len : length (in_lower_case text) ≡ length text = length-map text to_ascii_lowercase in
    let labels = labels_of-lower text in
    let wild = is_wild-lower text in
    λ i. unless (first_broken (len i) (labels i)) (record { labels = labels i; wild = wild i })

pub has_colon-lower : (text : List ℕ) → has_colon (in_lower_case text) ≡ has_colon text
has_colon-lower text = list_any-lower (λ byte. byte == 58) is_colon-lower text

is_number-lower : (label : List ℕ) → is_number (in_lower_case label) ≡ is_number label
is_number-lower label =
    ap₂ (λ len digits. not (len == 0) && digits) (length-map label to_ascii_lowercase) (list_all-lower is_ascii_digit is_digit-lower label)

pub ends_in_number-lower : (text : List ℕ) → ends_in_number (in_lower_case text) ≡ ends_in_number text
ends_in_number-lower text =
    ap is_number (after_last-lower is_full_stop is_full_stop-lower text) ∙ is_number-lower (after_last is_full_stop text)
