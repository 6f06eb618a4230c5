-- Pieces of a list that are moved, and bytes that a writer takes in pieces.
use Rattle.std.proofs.Common.{◌≡◌, ℕ, ◌+◌, ◌≤◌, List, [], ◌++◌, length, take, drop, Option, None, Some, refl, ap, sym, subst, ◌∙◌, arith, append_assoc, append-nil, take-append-drop}
use Rattle.std.specs.Io.KnownBytes.{Appends, Keeps}
use Rattle.std.proofs.lemmas.List.{take_at, drop-drop, length-take}
use Rattle.std.proofs.KnownBytes.{Appends-trans, Appends-kept}
use Rattle.plant.specs.Stream.{AppendsFront}

-- what was copied from a place on, and what stands behind it, is what stood from there on
pub moved : (bytes piece rest : List ℕ) (at count : ℕ) → piece ≡ take count (drop at bytes) → count ≤ length (drop at bytes)
    → take count (piece ++ rest) ++ drop (at + count) bytes ≡ drop at bytes
moved bytes piece rest at count is within =
    let size : length piece ≡ count = ap length is ∙ omega (arith, length-take count (drop at bytes)) in
    rw (take_at piece rest count size, is, ← drop-drop count at bytes) (take-append-drop count (drop at bytes))

-- of these bytes the writer has all but the rest
pub record Wrote (before now : Option (List ℕ)) (bytes rest : List ℕ) : Type 0 where
  pub front : List ℕ
  pub parts : bytes ≡ front ++ rest
  pub appended : Appends before now front

pub wrote_more : (before mid now : Option (List ℕ)) (bytes rest : List ℕ) (count : ℕ) → Wrote before mid bytes rest
    → Appends mid now (take count rest) → Wrote before now bytes (drop count rest)
wrote_more before mid now bytes rest count wrote more = record {
  front = wrote.front ++ take count rest;
  parts = wrote.parts ∙ ap (λ (l : List ℕ). wrote.front ++ l) (sym (take-append-drop count rest))
      ∙ sym (append_assoc wrote.front (take count rest) (drop count rest));
  appended = Appends-trans before mid now wrote.front (take count rest) wrote.appended more;
}

pub wrote_front : (before mid now : Option (List ℕ)) (bytes rest : List ℕ) → Wrote before mid bytes rest → Keeps mid now → AppendsFront before now bytes
wrote_front before mid now bytes rest wrote kept =
    let front : take (length wrote.front) bytes ≡ wrote.front = ap (take (length wrote.front)) wrote.parts ∙ take_at wrote.front rest (length wrote.front) refl in
    (length wrote.front, subst (Appends before now) (sym front) (Appends-kept before mid now wrote.front wrote.appended kept))

pub none_written : (before now : Option (List ℕ)) → Appends before now [] → Keeps before now
none_written None now none = tt
none_written (Some bytes) None none = none
none_written (Some bytes) (Some more) none = none ∙ append-nil bytes
