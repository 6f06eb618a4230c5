-- The place of the first such byte, and the parts between such bytes.
use Rattle.std.proofs.Common.{◌≡◌, ◌∙◌, refl, sym, ap, subst, ℕ, zero, suc, ◌<◌, ◌≤◌, Bool, true, false, cond, not, ◌&&◌, inl, inr, List, [], ◌∷◌, ◌++◌, length, get_or, take, drop, arith}
use Rattle.std.specs.Prelude.{Option, Some, None, ◌==◌, nat_lt}
use Rattle.std.specs.List.{position, position_or_len, slice_split, list_all}
use Rattle.std.proofs.lemmas.Bool.{eq-eqb, cond_below, cases_lt, not-true}
use Rattle.std.proofs.lemmas.List.Quantifiers.{position-Some}
use Rattle.std.proofs.lemmas.List.Sums.{prefix_len_passes}
use Rattle.caa_climb.specs.Reading.{cut_at}
use Rattle.caa_climb.proofs.Bytes.{Lacks, IsCut, cut_is}

cut_here : (c : ℕ) (xs : List ℕ) (i : ℕ) → i < length xs → (get_or xs i 0 == c) ≡ true →
    ((k : ℕ) → k < i → (get_or xs k 0 == c) ≡ false) → cut_at c xs ≡ Some (take i xs, drop (suc i) xs)
cut_here c [] i within same before = absurd (omega arith)
cut_here c (x ∷ xs) zero within same before = rw same refl
cut_here c (x ∷ xs) (suc i) within same before =
    let differs : (x == c) ≡ false = before 0 (omega arith) in
    let rest = cut_here c xs i (omega arith) same (λ k below. before (suc k) (omega arith)) in
    rw (differs, rest) refl

-- the cut at the first place
pub cut_at-place : (c : ℕ) (xs : List ℕ) (i : ℕ) → Some i ≡ position (λ b. b == c) xs → cut_at c xs ≡ Some (take i xs, drop (suc i) xs)
cut_at-place c xs i e =
    let found = position-Some (λ b. b == c) xs i 0 (sym e) in
    cut_here c xs i found.0 found.1 found.2

cut_nowhere : (c : ℕ) (xs : List ℕ) → ((k : ℕ) → k < length xs → (get_or xs k 0 == c) ≡ false) → cut_at c xs ≡ None
cut_nowhere c [] all = refl
cut_nowhere c (x ∷ xs) all =
    let differs : (x == c) ≡ false = all 0 (omega arith) in
    let rest = cut_nowhere c xs (λ k below. all (suc k) (omega arith)) in
    rw (differs, rest) refl

not_before : (a b : ℕ) → None ≡ cond (nat_lt a b) (Some a) None → b ≤ a
not_before a b e = elim (cases_lt a b) [ inl h ↦ cc (e, cond_below a b (Some a) None h) | inr h ↦ h ]

-- no cut where there is no place
pub cut_at-no_place : (c : ℕ) (xs : List ℕ) → None ≡ position (λ b. b == c) xs → cut_at c xs ≡ None
cut_at-no_place c xs e =
    let past : length xs ≤ position_or_len (λ b. b == c) xs = not_before _ _ e in
    cut_nowhere c xs (λ k within. not-true _ (prefix_len_passes (λ b. not (b == c)) xs k 0 (omega arith)))

-- ---- the parts between the bytes c

pub slice_split-at : (c : ℕ) (xs ys : List ℕ) → Lacks c xs → slice_split (λ b. b == c) (xs ++ c ∷ ys) ≡ xs ∷ slice_split (λ b. b == c) ys
slice_split-at c [] ys h = let same = eq-eqb c c refl in rw same refl
slice_split-at c (x ∷ xs) ys h = let differs = h.0 in let rest = slice_split-at c xs ys h.1 in rw (differs, rest) refl

pub slice_split-none : (c : ℕ) (xs : List ℕ) → Lacks c xs → slice_split (λ b. b == c) xs ≡ xs ∷ []
slice_split-none c [] h = refl
slice_split-none c (x ∷ xs) h = let differs = h.0 in let rest = slice_split-none c xs h.1 in rw (differs, rest) refl

pub slice_split-cut : (c : ℕ) (bytes front back : List ℕ) → Some (front, back) ≡ cut_at c bytes →
    slice_split (λ b. b == c) bytes ≡ front ∷ slice_split (λ b. b == c) back
slice_split-cut c bytes front back e =
    let P : Option (List ℕ × List ℕ) → Type 0 = λ o. IsCut c bytes o in
    let sides = subst P (sym e) (cut_is c bytes) in
    ap (slice_split (λ b. b == c)) sides.1 ∙ slice_split-at c front back sides.0

pub slice_split-uncut : (c : ℕ) (bytes : List ℕ) → None ≡ cut_at c bytes → slice_split (λ b. b == c) bytes ≡ bytes ∷ []
slice_split-uncut c bytes e =
    let P : Option (List ℕ × List ℕ) → Type 0 = λ o. IsCut c bytes o in
    slice_split-none c bytes (subst P (sym e) (cut_is c bytes))

-- ---- a test of each part

pub all_parts-front : (test : List ℕ → Bool) (c : ℕ) (bytes front back : List ℕ) → Some (front, back) ≡ cut_at c bytes → test front ≡ true →
    list_all test (slice_split (λ b. b == c) bytes) ≡ list_all test (slice_split (λ b. b == c) back)
all_parts-front test c bytes front back e passes = ap (list_all test) (slice_split-cut c bytes front back e) ∙ rw passes refl

pub all_parts-fails : (test : List ℕ → Bool) (c : ℕ) (bytes front back : List ℕ) → Some (front, back) ≡ cut_at c bytes → test front ≡ false →
    list_all test (slice_split (λ b. b == c) bytes) ≡ false
all_parts-fails test c bytes front back e fails = ap (list_all test) (slice_split-cut c bytes front back e) ∙ rw fails refl

and_true : (t : Bool) → (t && true) ≡ t
and_true true = refl
and_true false = refl

pub all_parts-last : (test : List ℕ → Bool) (c : ℕ) (bytes : List ℕ) → None ≡ cut_at c bytes →
    list_all test (slice_split (λ b. b == c) bytes) ≡ test bytes
all_parts-last test c bytes e = ap (list_all test) (slice_split-uncut c bytes e) ∙ and_true (test bytes)
