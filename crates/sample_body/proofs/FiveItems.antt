-- A list of length 5 is its five items.
use Rattle.std.proofs.Common.{◌≡◌, List, [], ◌∷◌, length, get_or, refl, sym, arith}

pub five_items : {A : Type 0} (items : List A) (second third fourth fifth a b c d : A) → length items ≡ 5
    → second ≡ get_or items 1 a → third ≡ get_or items 2 b → fourth ≡ get_or items 3 c → fifth ≡ get_or items 4 d
    → (first : A) × (items ≡ first ∷ second ∷ third ∷ fourth ∷ fifth ∷ [])
five_items [] second third fourth fifth a b c d size at1 at2 at3 at4 = absurd (omega (arith, size))
five_items (p ∷ []) second third fourth fifth a b c d size at1 at2 at3 at4 = absurd (omega (arith, size))
five_items (p ∷ q ∷ []) second third fourth fifth a b c d size at1 at2 at3 at4 = absurd (omega (arith, size))
five_items (p ∷ q ∷ r ∷ []) second third fourth fifth a b c d size at1 at2 at3 at4 = absurd (omega (arith, size))
five_items (p ∷ q ∷ r ∷ s ∷ []) second third fourth fifth a b c d size at1 at2 at3 at4 = absurd (omega (arith, size))
five_items (p ∷ q ∷ r ∷ s ∷ t ∷ []) second third fourth fifth a b c d size at1 at2 at3 at4 =
    (p, cc (at1, at2, at3, at4))
five_items (p ∷ q ∷ r ∷ s ∷ t ∷ u ∷ rest) second third fourth fifth a b c d size at1 at2 at3 at4 =
    absurd (omega (arith, size))
