-- Rows of rules, of which each one's rule is not broken, or something holds of it.
use Rattle.std.proofs.Common.{◌≡◌, inl, inr, ℕ, Bool, true, false, List, [], ◌∷◌, ◌++◌, refl, subst}
use Rattle.std.specs.List.{AllByRecursion}
use Rattle.profile_lint.specs.Lint.{Has, HasBroken}
use Rattle.sound_body.specs.Rules.{CanBeBroken}

-- a rule that is not broken
pub kept : {broken : Bool} {A : Type 0} → broken ≡ false → broken ≡ true → A
kept is_not is = absurd (cc (is_not, is))

-- the row's rule is not broken, or this holds of it
abbrev pub Fine : (ℕ → Type 0) → ℕ × Bool → Type 0
Fine holds row = row.1 ≡ true → holds row.0

module _ (holds : ℕ → Type 0) where
  pub all_fine : (rows others : List (ℕ × Bool)) → AllByRecursion (Fine holds) rows
      → AllByRecursion (Fine holds) others → AllByRecursion (Fine holds) (rows ++ others)
  all_fine [] others here there = there
  all_fine (row ∷ rows) others here there = (here.0, all_fine rows others here.1 there)

  pub broken_is_fine : (rows : List (ℕ × Bool)) (rule : ℕ) → AllByRecursion (Fine holds) rows → HasBroken rows rule
      → holds rule
  broken_is_fine [] rule fine has = absurd has
  broken_is_fine (row ∷ rows) rule fine (inl here) = subst holds here.0 (fine.0 here.1)
  broken_is_fine (row ∷ rows) rule fine (inr there) = broken_is_fine rows rule fine.1 there

pub each_can_be_broken : (list : List ℕ) → ((rule : ℕ) → Has list rule → CanBeBroken rule)
    → AllByRecursion CanBeBroken list
each_can_be_broken [] each = tt
each_can_be_broken (rule ∷ rules) each =
    (each rule (inl refl), each_can_be_broken rules (λ other has. each other (inr has)))
