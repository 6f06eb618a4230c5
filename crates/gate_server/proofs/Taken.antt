-- What a loop has taken from a source.
use Rattle.std.proofs.Common.{◌≡◌, ℕ, ◌≤◌, List, [], ◌++◌, length, take, Option, Some, None, refl, sym, subst, ap, ◌∙◌, append_assoc, append-nil, arith}
use Rattle.std.specs.Option.{ForSome}
use Rattle.std.specs.Io.KnownBytes.{Consumes, IsAtEnd}
use Rattle.std.proofs.lemmas.List.{take_all, take-append-le}
use Rattle.std.proofs.Math.Seq.{take-length}

pub consumes_none : (left : Option (List ℕ)) → Consumes left left []
consumes_none None = tt
consumes_none (Some left) = refl

pub consumes_more : (a b c : Option (List ℕ)) (left right : List ℕ) → Consumes a b left → Consumes b c right → Consumes a c (left ++ right)
consumes_more None b c left right first second = tt
consumes_more (Some a) None c left right first second = absurd first
consumes_more (Some a) (Some b) None left right first second = absurd second
consumes_more (Some a) (Some b) (Some c) left right first second =
    first ∙ ap (λ (l : List ℕ). left ++ l) second ∙ sym (append_assoc left right c)

-- all was taken, and it isn't too much
pub gave_all : (most : ℕ) (old new : Option (List ℕ)) (bytes : List ℕ) → Consumes old new bytes → IsAtEnd new → length bytes ≤ most
    → ForSome old (λ left. bytes ≡ take most left)
gave_all most (Some a) None bytes taken end fits = absurd taken
gave_all most (Some a) (Some b) bytes taken end fits = λ left is.
    let whole : a ≡ bytes = taken ∙ ap (λ (l : List ℕ). bytes ++ l) end ∙ append-nil bytes in
    let same : a ≡ left = cc is in
    subst (λ (l : List ℕ). bytes ≡ take most l) (sym whole ∙ same) (sym (take_all most bytes fits))
gave_all most None new bytes taken end fits = λ left is. cc is

-- the end came behind what was taken
pub gave_end : (most : ℕ) (old mid new : Option (List ℕ)) (bytes : List ℕ) → Consumes old mid bytes → Consumes mid new [] → IsAtEnd new → length bytes ≤ most
    → ForSome old (λ left. bytes ≡ take most left)
gave_end most old mid new bytes taken none end fits =
    gave_all most old new bytes (subst (λ (b : List ℕ). Consumes old new b) (append-nil bytes) (consumes_more old mid new bytes [] taken none)) end fits

-- so much was taken
pub gave_front : (most : ℕ) (old new : Option (List ℕ)) (bytes : List ℕ) → Consumes old new bytes → length bytes ≡ most
    → ForSome old (λ left. bytes ≡ take most left)
gave_front most (Some a) None bytes taken size = absurd taken
gave_front most (Some a) (Some b) bytes taken size = λ left is.
    let same : a ≡ left = cc is in
    let cut : take most (bytes ++ b) ≡ bytes = subst (λ (n : ℕ). take n (bytes ++ b) ≡ bytes) size
    (take-append-le (length bytes) bytes b (omega arith) ∙ take-length bytes) in
    subst (λ (l : List ℕ). bytes ≡ take most l) (sym taken ∙ same) (sym cut)
gave_front most None new bytes taken size = λ left is. cc is
