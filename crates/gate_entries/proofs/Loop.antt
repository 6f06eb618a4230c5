-- Reading items one after the other, as a loop does.
use Rattle.std.proofs.Common.{◌≡◌, ℕ, suc, ◌-◌, ◌+◌, ◌≤◌, ◌<◌, List, [], ◌∷◌, ◌++◌, Ok, Err, refl, sym, ap, ◌∙◌, append_assoc, append-nil, arith}
use Rattle.gate_entries.specs.declared.fault.FieldFault.{FieldFault}
use Rattle.gate_entries.specs.declared.fault.FieldFault.TheVariants as fields
use Rattle.gate_entries.specs.Field.{◌>>=◌, Read, Fails, items_at}

-- what was read before, and what is still read
abbrev pub with_front : {A : Type 0} → List A → Read (List A) → Read (List A)
with_front front read = read >>= λ x. Ok (front ++ x.0, x.1)

regroup : {A : Type 0} (front : List A) (item : A) (read : Read (List A)) → with_front front (read >>= λ x. Ok (item ∷ x.0, x.1)) ≡ with_front (front ++ item ∷ []) read
regroup {A = A} front item (Ok x) = ap (λ (items : List A). Ok (items, x.1)) (simp append_assoc)
regroup front item (Err left) = refl

module _ {A : Type 0} (reading : List ℕ → Read A) (front : List A) (count i : ℕ) (bytes : List ℕ) (total : Read (List A))
    (so_far : with_front front (items_at reading (count - i) bytes) ≡ total) where
  pub goes_on : (item : A) (after : List ℕ) → i < count → reading bytes ≡ Ok (item, after)
      → with_front (front ++ item ∷ []) (items_at reading (count - (i + 1)) after) ≡ total
  unfolding items_at
  goes_on item after lt read =
      let left : count - i ≡ suc (count - (i + 1)) = omega arith in
      let one : with_front front (items_at reading (count - i) bytes) ≡ with_front (front ++ item ∷ []) (items_at reading (count - (i + 1)) after) =
      rw (left, read) (regroup front item (items_at reading (count - (i + 1)) after)) in
      sym one ∙ so_far

  pub fails : (fault : FieldFault) → i < count → Fails fault (reading bytes) → Fails fault total
  unfolding items_at
  fails fields.NoMemory lt read = tt
  fails (fields.Left place) lt read =
      let left : count - i ≡ suc (count - (i + 1)) = omega arith in
      let one : with_front front (items_at reading (count - i) bytes) ≡ Err place = rw (left, read) refl in
      sym so_far ∙ one

  pub is_done : count ≤ i → total ≡ Ok (front, bytes)
  unfolding items_at
  is_done le =
      let left : count - i ≡ 0 = omega arith in
      let one : with_front front (items_at reading (count - i) bytes) ≡ Ok (front, bytes) = rw left (ap (λ (items : List A). Ok (items, bytes)) (append-nil front)) in
      sym so_far ∙ one
