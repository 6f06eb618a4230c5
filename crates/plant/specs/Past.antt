-- What a stop of a plant in memory may leave.
use Rattle.std.specs.Prelude.{◌≡◌, ℕ, ◌<◌, ◌≤◌, ◌⊎◌, List, [], ◌∷◌, length}
use Rattle.std.proofs.Common.{inl, inr, arith}
use Rattle.plant.specs.Tearing.{Torn}
use Rattle.plant.specs.Stops.{Stops}

-- At one moment: the bytes that a read gives, those that the last sync made durable, the ranges written since (the place and
-- the count of bytes, the last range first), and the bodies handed to the signer.
pub record Content : Type 0 where
  pub bytes : List ℕ
  pub stable : List ℕ
  pub written : List (ℕ × ℕ)
  pub sent : List (List ℕ)

-- the stable bytes, with each range torn in its turn
abbrev pub IsTorn : List ℕ → List (ℕ × ℕ) → List ℕ → Type 0
IsTorn stable [] image = image ≡ stable
IsTorn stable (range ∷ written) image = (before : List ℕ) × IsTorn stable written before × Torn range.0 range.1 before image

-- a stop at this moment may leave the bytes as they read, or torn, with the sent list
abbrev pub IsPair : Content → List ℕ → List (List ℕ) → Type 0
IsPair content image sent = ((image ≡ content.bytes) ⊎ IsTorn content.stable content.written image) × (sent ≡ content.sent)

-- a stop at one of the moments since t may have left the pair. The contents of the moments stand with the last first
abbrev pub HadBeen : ℕ → List Content → List ℕ → List (List ℕ) → Type 0
HadBeen t [] image sent = ⊥
HadBeen t (content ∷ past) image sent = ((t ≤ length past) × IsPair content image sent) ⊎ HadBeen t past image sent

abbrev pub LeftSinceMoment : Content → List Content → ℕ → List ℕ → List (List ℕ) → Type 0
LeftSinceMoment content past t image sent = IsPair content image sent ⊎ HadBeen t past image sent

had_been-earlier : (past : List Content) (t u : ℕ) (image : List ℕ) (sent : List (List ℕ)) → t ≤ u → HadBeen u past image sent → HadBeen t past image sent
had_been-earlier [] t u image sent le left = left
had_been-earlier (content ∷ past) t u image sent le (inl (since, pair)) = inl (omega (arith, le, since), pair)
had_been-earlier (content ∷ past) t u image sent le (inr left) = inr (had_been-earlier past t u image sent le left)

pub left-earlier : (content : Content) (past : List Content) (t u : ℕ) (image : List ℕ) (sent : List (List ℕ)) → t ≤ u
    → LeftSinceMoment content past u image sent → LeftSinceMoment content past t image sent
left-earlier content past t u image sent le (inl pair) = inl pair
left-earlier content past t u image sent le (inr left) = inr (had_been-earlier past t u image sent le left)

-- by what is there now, and the contents of the moments before
abbrev pub stops_of : Content → List Content → Stops
stops_of content past = record { moment = length past; left_since = LeftSinceMoment content past; earlier = left-earlier content past }

pub had_been-before : (past : List Content) (t : ℕ) (image : List ℕ) (sent : List (List ℕ)) → HadBeen t past image sent → t < length past
had_been-before [] t image sent left = absurd left
had_been-before (content ∷ past) t image sent (inl (since, pair)) = omega (arith, since)
had_been-before (content ∷ past) t image sent (inr left) = omega (arith, had_been-before past t image sent left)

-- since the moment after the last there is none
pub none_left : (past : List Content) (image : List ℕ) (sent : List (List ℕ)) → HadBeen (length past) past image sent → ⊥
none_left past image sent left = omega (arith, had_been-before past (length past) image sent left)
