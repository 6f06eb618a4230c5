-- The parts of a text between the places of a byte.
use Rattle.std.proofs.Common.{◌≡◌, ℕ, ◌+◌, ◌-◌, ◌<◌, Bool, List, [], ◌∷◌, ◌++◌, ◌==◌, if◌then◌else◌, append_assoc, get_or, length, take, drop, Some, None, refl, sym, ap, subst, ◌∙◌, inl, inr, lt-ltb, le-ltb, ne_eqb, arith}
use Rattle.std.specs.List.{join_with_byte, position, position_or_len, slice_split}
use Rattle.std.proofs.lemmas.List.{length-drop, length-take-le, take_more}
use Rattle.std.proofs.Math.Seq.{take-length}
use Rattle.std.proofs.lemmas.Bool.{cases_lt, cond-true, cond-false}
use Rattle.std.proofs.lemmas.List.Sums.{fails_before_first}
use Rattle.std.proofs.lemmas.List.Splits.{slice_split_none, slice_split_first}
use Rattle.std.proofs.lemmas.Option.{none-some, same_Some}

-- a range that ends with the list
take-rest : (xs : List ℕ) (n : ℕ) → take (length xs - n) (drop n xs) ≡ drop n xs
take-rest xs n = ap (λ len. take len (drop n xs)) (sym (length-drop n xs)) ∙ take-length (drop n xs)

pub slice_split-some : (p : ℕ → Bool) (xs : List ℕ) (at : ℕ) → position p xs ≡ Some at → (at < length xs) × (slice_split p xs ≡ take at xs ∷ slice_split p (take (length xs - (at + 1)) (drop (at + 1) xs)))
slice_split-some p xs at found =
    elim (cases_lt (position_or_len p xs) (length xs)) [
      | inl within ↦
          let same : position_or_len p xs ≡ at = same_Some _ _ (sym (cond-true _ _ None (lt-ltb _ _ within)) ∙ found) in
          let first = subst (λ n. slice_split p xs ≡ take n xs ∷ slice_split p (drop (n + 1) xs)) same (slice_split_first p xs 0 within) in
          (omega arith, first ∙ ap (λ rest. take at xs ∷ slice_split p rest) (sym (take-rest xs (at + 1))))
      | inr past ↦ absurd (none-some at (sym (cond-false _ (Some (position_or_len p xs)) _ (le-ltb _ _ past)) ∙ found))
    ]

pub slice_split-none : (p : ℕ → Bool) (xs : List ℕ) → position p xs ≡ None → slice_split p xs ≡ xs ∷ []
slice_split-none p xs missing =
    elim (cases_lt (position_or_len p xs) (length xs)) [
      | inl within ↦ absurd (none-some _ (sym missing ∙ cond-true _ (Some (position_or_len p xs)) None (lt-ltb _ _ within)))
      | inr past ↦ slice_split_none p xs (λ k d below. fails_before_first p xs k d (omega arith))
    ]

regroup : (x joined part : List ℕ) (byte : ℕ) → x ++ byte ∷ (joined ++ (byte ∷ []) ++ part) ≡ (x ++ byte ∷ joined) ++ (byte ∷ []) ++ part
regroup x joined part byte = simp append_assoc

-- what goes between some parts and one more
abbrev separator : ℕ → List (List ℕ) → List ℕ
separator byte [] = []
separator byte (x ∷ parts) = byte ∷ []

separator-at : (byte at : ℕ) (parts : List (List ℕ)) → length parts ≡ at → separator byte parts ≡ (if at == 0 then [] else byte ∷ [])
separator-at byte at [] count = ap (λ n. if n == 0 then [] else byte ∷ []) count
separator-at byte at (x ∷ parts) count = sym (cond-false (at == 0) [] (byte ∷ []) (ne_eqb at 0 (λ zero. absurd (omega arith))))

-- one more part at the end
join_with_byte-push : (byte : ℕ) (parts : List (List ℕ)) (part : List ℕ) → join_with_byte byte (parts ++ part ∷ []) ≡ join_with_byte byte parts ++ separator byte parts ++ part
join_with_byte-push byte [] part = refl
join_with_byte-push byte (x ∷ []) part = sym (append_assoc x (byte ∷ []) part)
join_with_byte-push byte (x ∷ y ∷ parts) part =
    ap (λ text. x ++ byte ∷ text) (join_with_byte-push byte (y ∷ parts) part) ∙ regroup x (join_with_byte byte (y ∷ parts)) part byte

-- the parts before a place, and the part at it
pub join_with_byte-more : (byte at : ℕ) (parts : List (List ℕ)) (part before after : List ℕ) → at < length parts → part ≡ get_or parts at part → before ≡ join_with_byte byte (take at parts) → after ≡ before ++ (if at == 0 then [] else byte ∷ []) ++ part → after ≡ join_with_byte byte (take (at + 1) parts)
join_with_byte-more byte at parts part before after within is joined longer =
    let count : length (take at parts) ≡ at = length-take-le at parts (omega arith) in
    let more : take (at + 1) parts ≡ take at parts ++ part ∷ [] = take_more parts at part within ∙ ap (λ x. take at parts ++ x ∷ []) (sym is) in
    longer ∙ ap (λ text. text ++ (if at == 0 then [] else byte ∷ []) ++ part) joined
    ∙ ap (λ between. join_with_byte byte (take at parts) ++ between ++ part) (sym (separator-at byte at (take at parts) count))
    ∙ sym (join_with_byte-push byte (take at parts) part)
    ∙ ap (join_with_byte byte) (sym more)
