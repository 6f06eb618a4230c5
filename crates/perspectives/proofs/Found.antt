-- What a search that found nothing says.
use Rattle.std.proofs.Common.{◌≡◌, refl, Bool, true, false, cond, List, length, ℕ, ◌≤◌, inl, inr, arith}
use Rattle.std.specs.List.{AllPass, position, position_or_len}
use Rattle.std.specs.Prelude.{not, Some, None, nat_lt}
use Rattle.std.proofs.lemmas.List.Sums.{prefix_len_passes}
use Rattle.std.proofs.lemmas.Bool.{cond_below, cases_lt}

no_double : (b : Bool) → not (not b) ≡ true → b ≡ true
no_double true h = refl
no_double false h = h

-- none was found, so the place is not before the end
not_before : (a b : ℕ) → None ≡ cond (nat_lt a b) (Some a) None → b ≤ a
not_before a b e = elim (cases_lt a b) [ inl h ↦ cc (e, cond_below a b (Some a) None h) | inr h ↦ h ]

-- where none fails the test, all pass it
pub position_none : {A : Type 0} (p : A → Bool) (xs : List A) → None ≡ position (λ x. not (p x)) xs → AllPass p xs
position_none p xs e =
    let past : length xs ≤ position_or_len (λ x. not (p x)) xs = not_before _ _ e in
    λ k d within. no_double _ (prefix_len_passes (λ x. not (not (p x))) xs k d (omega arith))
