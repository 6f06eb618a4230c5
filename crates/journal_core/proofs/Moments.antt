-- Calls one after another, and what a stop since the first may leave.
use Rattle.std.proofs.Common.{◌≡◌, ⊎_elim, ◌⊎◌, ℕ, List, Option, Some, None, option_map, refl, sym}
use Rattle.std.proofs.lemmas.Option.{same_Some}
use Rattle.plant.specs.Stops.{Stops, LeftNow, LeftSince}
use Rattle.plant.specs.Joining.{Joins, Stays, Follows}
use Rattle.journal_core.specs.Standing.{KeepsSent}

-- what was told before a change
pub told_before : (change : List ℕ → List ℕ) (before : Option (List ℕ)) (now : List ℕ) → option_map change before ≡ Some now
    → (was : List ℕ) × (before ≡ Some was) × (now ≡ change was)
told_before change None now is = absurd (cc is)
told_before change (Some was) now is = (was, refl, sym (same_Some (change was) now is))

module _ (a b c : Stops) (first : Joins a b) (second : Joins b c) where
  -- what may be left since the start of two calls may be left since the start of the one or of the other
  pub parted : (image : List ℕ) (sent : List (List ℕ)) → LeftSince a c image sent → LeftSince a b image sent ⊎ LeftSince b c image sent
  parted image sent left = second.joined a.moment image sent first.later left

  -- what may be left between them may be left since the start
  pub between : (image : List ℕ) (sent : List (List ℕ)) → LeftNow b image sent → LeftSince a b image sent
  between image sent left = b.earlier a.moment b.moment image sent first.later left

-- each kind of call keeps the sent list
pub keeps_stays : (old new : Stops) → Stays old new → KeepsSent old new
keeps_stays old new stays = record { joins = stays.joins; each = λ image sent left. (image, stays.each image sent left) }

pub keeps_follows : (step : List ℕ → List ℕ → Type 0) (old new : Stops) → Follows step old new → KeepsSent old new
keeps_follows step old new follows = record {
  joins = follows.joins;
  each = λ image sent left. let from = follows.each image sent left in (from.0, from.1);
}

pub keeps_on : (a b c : Stops) → Joins a c → KeepsSent a b → KeepsSent b c → KeepsSent a c
keeps_on a b c joined first second = record {
  joins = joined;
  each = λ image sent left. ⊎_elim (λ mid. first.each image sent mid)
      (λ since. let from = second.each image sent since in first.each from.0 sent (between a b c first.joins second.joins from.0 sent from.1))
      (parted a b c first.joins second.joins image sent left);
}
