-- The member that alone calls itself the primary is the one that is found.
use Rattle.std.proofs.Common.{◌≡◌, ℕ, zero, suc, Bool, true, false, cond, List, [], ◌∷◌, Some, None, refl, sym, ap, ◌∙◌}
use Rattle.std.specs.List.{find, slice_get}
use Rattle.perspectives.specs.declared.perspective.Perspective.{Perspective}
use Rattle.perspectives.specs.Panel.{IsPrimaryOf, HasNoOther}
use Rattle.evidence_index.specs.Lookups.{primary_of}

abbrev is_primary : Perspective → Bool
is_primary q = q.primary

abbrev IsOnly : List Perspective → Perspective → Type 0
IsOnly members p = (q : Perspective) (j : ℕ) → slice_get members j ≡ Some q → q.primary ≡ true → q ≡ p

-- where no other calls itself the primary, one that does is found
found_at : (members : List Perspective) (p : Perspective) (i : ℕ) → slice_get members i ≡ Some p → p.primary ≡ true → IsOnly members p
    → Some p ≡ find is_primary members
found_at [] p i at is only = cc at
found_at (first ∷ others) p zero at is only =
    let same : first ≡ p = cc at in
    let h : first.primary ≡ true = ap (λ (q : Perspective). q.primary) same ∙ is in
    sym (ap (λ (b : Bool). cond b (Some first) (find is_primary others)) h ∙ ap Some same)
found_at (first ∷ others) p (suc i) at is only =
    let go : (b : Bool) → first.primary ≡ b → Some p ≡ cond b (Some first) (find is_primary others)
    = λ b. elim b as (λ v. first.primary ≡ v → Some p ≡ cond v (Some first) (find is_primary others)) [
      | true ↦ λ h. ap Some (sym (only first zero refl h))
      | false ↦ λ h. found_at others p i at is (λ q j there primary. only q (suc j) there primary)
    ] in
    go first.primary refl

pub primary_found : (members : List Perspective) (p : Perspective) → IsPrimaryOf members p → HasNoOther members p → Some p ≡ primary_of members
primary_found members p is only =
    found_at members p is.place is.here is.is (λ q j there primary. only.same q (record { place = j; here = there; is = primary }))
