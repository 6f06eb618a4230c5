-- What a stop of the machine may leave: pairs of an image of the disk and a list of the bodies handed to the signer.
use Rattle.std.specs.Prelude.{◌≡◌, ℕ, ◌≤◌, List, Option, Some}

-- A moment is a number that doesn't fall. `left_since t image sent` says that a stop at some moment since t may have left
-- the image and the list; then a stop since an earlier moment may have left them too. A plant that doesn't tell its pairs has none.
pub record Stops : Type 1 where
  pub moment : ℕ
  pub left_since : ℕ → List ℕ → List (List ℕ) → Type 0
  pub earlier : (t u : ℕ) (image : List ℕ) (sent : List (List ℕ)) → t ≤ u → left_since u image sent → left_since t image sent

-- the pairs that a stop now may leave
abbrev pub LeftNow : Stops → List ℕ → List (List ℕ) → Type 0
LeftNow stops = stops.left_since stops.moment

-- the pairs that a stop since the old state's moment may have left
abbrev pub LeftSince : Stops → Stops → List ℕ → List (List ℕ) → Type 0
LeftSince old new = new.left_since old.moment

-- each image that a stop now may leave has the bytes that a read gives
abbrev pub IsDurable : Option (List ℕ) → Stops → Type 0
IsDurable bytes stops = (image : List ℕ) (sent : List (List ℕ)) → LeftNow stops image sent → bytes ≡ Some image

-- of a plant that doesn't tell them
abbrev pub no_stops : Stops
no_stops = record { moment = 0; left_since = λ t image sent. ⊥; earlier = λ t u image sent le left. left }
