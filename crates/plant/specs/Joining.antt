-- What a call, or a run of calls, makes of the pairs that a stop may leave.
use Rattle.std.specs.Prelude.{◌≡◌, ℕ, ◌≤◌, ◌⊎◌, List, [], ◌∷◌, ◌++◌}
use Rattle.plant.specs.Stops.{Stops, LeftNow, LeftSince}

-- The rule that joins moments. A pair that a stop since a moment before the call may have left by what is told after it, a stop
-- since then may have left by what was told before it, or a stop since the call's start may have left it. No pair is forgotten.
pub record Joins (old new : Stops) : Type 0 where
  pub later : old.moment ≤ new.moment
  pub joined : (t : ℕ) (image : List ℕ) (sent : List (List ℕ)) → t ≤ old.moment → new.left_since t image sent
      → old.left_since t image sent ⊎ LeftSince old new image sent
  pub keeps : (t : ℕ) (image : List ℕ) (sent : List (List ℕ)) → t ≤ old.moment → old.left_since t image sent → new.left_since t image sent

-- since the start a stop may leave what it could leave before, and nothing else
pub record Stays (old new : Stops) : Type 0 where
  pub joins : Joins old new
  pub each : (image : List ℕ) (sent : List (List ℕ)) → LeftSince old new image sent → LeftNow old image sent

-- since the start a stop may leave an image that comes by the step from one that it could leave before, with the same list
pub record Follows (step : List ℕ → List ℕ → Type 0) (old new : Stops) : Type 0 where
  pub joins : Joins old new
  pub each : (image : List ℕ) (sent : List (List ℕ)) → LeftSince old new image sent → (before : List ℕ) × LeftNow old before sent × step before image

-- since the start a stop may leave an image that it could leave before, with the list of then or this and the body
pub record MaySend (body : List ℕ) (old new : Stops) : Type 0 where
  pub joins : Joins old new
  pub each : (image : List ℕ) (sent : List (List ℕ)) → LeftSince old new image sent
      → (before : List (List ℕ)) × LeftNow old image before × ((sent ≡ before) ⊎ (sent ≡ before ++ body ∷ []))
