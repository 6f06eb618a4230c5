-- Runs of calls, one after the other.
use Rattle.std.proofs.Common.{◌≡◌, ◌++◌, ◌∷◌, [], ◌⊎◌, ℕ, List, inl, inr, ⊎_elim, arith}
use Rattle.plant.specs.Stops.{Stops, LeftNow, LeftSince}
use Rattle.plant.specs.Joining.{Joins, Stays, Follows, MaySend}

pub joins_still : (stops : Stops) → Joins stops stops
joins_still stops = record {
  later = omega arith;
  joined = λ t image sent le left. inl left;
  keeps = λ t image sent le left. left;
}

pub stays_still : (stops : Stops) → Stays stops stops
stays_still stops = record { joins = joins_still stops; each = λ image sent left. left }

pub joins_on : (old mid new : Stops) → Joins old mid → Joins mid new → Joins old new
joins_on old mid new first second = record {
  later = omega (arith, first.later, second.later);
  joined = λ t image sent le left. ⊎_elim
      (λ past. ⊎_elim inl (λ since. inr (second.keeps old.moment image sent first.later since)) (first.joined t image sent le past))
      (λ since. inr (new.earlier old.moment mid.moment image sent first.later since))
      (second.joined t image sent (omega (arith, le, first.later)) left);
  keeps = λ t image sent le left. second.keeps t image sent (omega (arith, le, first.later)) (first.keeps t image sent le left);
}

-- behind a run after which nothing else may be left, a pair has what each pair since the start of the first run had
each_on : (old mid new : Stops) (P : List ℕ → List (List ℕ) → Type 0) → Joins old mid → Stays mid new
    → ((image : List ℕ) (sent : List (List ℕ)) → LeftSince old mid image sent → P image sent)
    → (image : List ℕ) (sent : List (List ℕ)) → LeftSince old new image sent → P image sent
each_on old mid new P first second each image sent left = each image sent (⊎_elim (λ past. past)
    (λ since. mid.earlier old.moment mid.moment image sent first.later (second.each image sent since))
    (second.joins.joined old.moment image sent first.later left))

pub stays_on : (old mid new : Stops) → Stays old mid → Stays mid new → Stays old new
stays_on old mid new first second = record {
  joins = joins_on old mid new first.joins second.joins;
  each = each_on old mid new (LeftNow old) first.joins second first.each;
}

pub follows_on : (step : List ℕ → List ℕ → Type 0) (old mid new : Stops) → Follows step old mid → Stays mid new → Follows step old new
follows_on step old mid new first second = record {
  joins = joins_on old mid new first.joins second.joins;
  each = each_on old mid new (λ image sent. (before : List ℕ) × LeftNow old before sent × step before image) first.joins second first.each;
}

pub sends_on : (body : List ℕ) (old mid new : Stops) → MaySend body old mid → Stays mid new → MaySend body old new
sends_on body old mid new first second = record {
  joins = joins_on old mid new first.joins second.joins;
  each = each_on old mid new (λ image sent. (before : List (List ℕ)) × LeftNow old image before × ((sent ≡ before) ⊎ (sent ≡ before ++ body ∷ [])))
      first.joins second first.each;
}
