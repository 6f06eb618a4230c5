-- A list that is made for each member of a panel in turn.
use Rattle.std.proofs.Common.{◌≡◌, ℕ, zero, suc, ◌+◌, ◌≤◌, List, [], ◌∷◌, ◌++◌, map, take, length, Some, None, refl, sym, ap, ◌∙◌, arith, add-one}
use Rattle.std.specs.List.{slice_get}

map_suc : {X Y : Type 0} (f : X → Y) (xs : List X) (i : ℕ) (x : X) → slice_get xs i ≡ Some x → map f (take (suc i) xs) ≡ map f (take i xs) ++ f x ∷ []
map_suc f [] i x e = cc e
map_suc f (first ∷ others) zero x e = let same : first ≡ x = cc e in ap (λ y. f y ∷ []) same
map_suc f (first ∷ others) (suc i) x e = ap (λ ys. f first ∷ ys) (map_suc f others i x e)

-- one more element
map_more : {X Y : Type 0} (f : X → Y) (xs : List X) (i : ℕ) (x : X) → slice_get xs i ≡ Some x → map f (take (i + 1) xs) ≡ map f (take i xs) ++ f x ∷ []
map_more f xs i x e = rw (add-one i) (map_suc f xs i x e)

-- there is an element at each place within
pub none_past : {X : Type 0} (xs : List X) (i : ℕ) → slice_get xs i ≡ None → length xs ≤ i
none_past [] i e = omega arith
none_past (first ∷ others) zero e = cc e
none_past (first ∷ others) (suc i) e = let h = none_past others i e in omega arith

-- what was made so far, with what is made of the member at this place
pub made_more : {X Y : Type 0} (f : X → Y) (xs : List X) (i : ℕ) (x : X) (made longer : List Y) (y : Y) → Some x ≡ slice_get xs i → made ≡ map f (take i xs)
    → y ≡ f x → longer ≡ made ++ y ∷ [] → longer ≡ map f (take (i + 1) xs)
made_more f xs i x made longer y at so_far same pushed = pushed ∙ (ap (λ ys. ys ++ y ∷ []) so_far ∙ (ap (λ z. map f (take i xs) ++ z ∷ []) same ∙ sym (map_more f xs i x (sym at))))
