-- Both of two truths.
use Rattle.std.proofs.Common.{◌≡◌, Bool, true, false, ◌&&◌, refl}

pub left_holds : (x y : Bool) → (x && y) ≡ true → x ≡ true
left_holds true y both = refl
left_holds false y both = absurd cc

pub right_holds : (x y : Bool) → (x && y) ≡ true → y ≡ true
right_holds true y both = both
right_holds false y both = absurd cc
