-- Looking for a value that stands twice in a list, by those that were seen.
use Rattle.std.proofs.Common.{◌≡◌, refl, sym, ◌∙◌, ap, ap₂, Bool, true, false, not, cond, ◌||◌, List, [], ◌∷◌}
use Rattle.std.specs.List.{list_any}
use Rattle.profile_lint.specs.Parts.{has_twice}

or_sorted : (a b c d : Bool) → (cond a true b || (c || d)) ≡ ((a || c) || (b || d))
or_sorted true b c d = refl
or_sorted false true true d = refl
or_sorted false true false d = refl
or_sorted false false c d = refl

or_swapped : (a b c : Bool) → (a || (b || c)) ≡ ((b || a) || c)
or_swapped true true c = refl
or_swapped true false c = refl
or_swapped false true c = refl
or_swapped false false c = refl

module _ {A : Type 0} (same : A → A → Bool) (before after : A → Bool) (first : A)
    (each : (x : A) → after x ≡ cond (same first x) true (before x)) where
  -- what was seen afterwards is the first one and what was seen before
  any_after : (xs : List A) → list_any after xs ≡ (list_any (same first) xs || list_any before xs)
  any_after [] = refl
  any_after (x ∷ xs) =
      ap₂ ◌||◌ (each x) (any_after xs) ∙ or_sorted (same first x) (before x) (list_any (same first) xs) (list_any before xs)

  -- the others decide, where the first one wasn't seen before
  pub one_more : before first ≡ false → (others : List A)
      → (list_any before (first ∷ others) || has_twice same (first ∷ others)) ≡ (list_any after others || has_twice same others)
  one_more fresh others =
      ap (λ b. (b || list_any before others) || (list_any (same first) others || has_twice same others)) fresh
      ∙ or_swapped (list_any before others) (list_any (same first) others) (has_twice same others)
      ∙ ap (λ b. b || has_twice same others) (sym (any_after others))

-- nothing was seen
pub none : {A : Type 0} (before : A → Bool) → ((x : A) → before x ≡ false) → (xs : List A) → list_any before xs ≡ false
none before each [] = refl
none before each (x ∷ xs) = ap₂ ◌||◌ (each x) (none before each xs)

-- a new one wasn't seen
pub not_seen : {fresh seen : Bool} → fresh ≡ true → fresh ≡ not seen → seen ≡ false
not_seen {seen = true} is told = sym is ∙ told
not_seen {seen = false} is told = refl
