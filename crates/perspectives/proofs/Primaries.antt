-- The member that alone calls itself the primary.
use Rattle.std.proofs.Common.{◌≡◌, ℕ, zero, suc, ◌+◌, Bool, true, false, cond, List, [], ◌∷◌, Some, None, refl, sym, ap, ◌∙◌, arith}
use Rattle.std.specs.List.{find, slice_get}
use Rattle.std.proofs.lemmas.List.Sums.{sum_by-cons}
use Rattle.perspectives.specs.declared.perspective.Perspective.{Perspective}
use Rattle.perspectives.specs.Panel.{primary_count, IsPrimaryOf, HasNoOther}

abbrev weight : Perspective → ℕ
weight p = cond p.primary 1 0

one_more : (first : Perspective) (others : List Perspective) → primary_count (first ∷ others) ≡ weight first + primary_count others
one_more first others = sum_by-cons weight first others

counted : (p : Perspective) → p.primary ≡ true → weight p ≡ 1
counted p is = ap (λ (b : Bool). cond {A = ℕ} b 1 0) is

-- where none is counted, no member is one
none_at : (members : List Perspective) (p : Perspective) (i : ℕ) → primary_count members ≡ 0 → slice_get members i ≡ Some p → p.primary ≡ true → ⊥
none_at [] p i none at is = cc at
none_at (first ∷ others) p zero none at is =
    let same : first ≡ p = cc at in
    let one = counted first (ap (λ (q : Perspective). q.primary) same ∙ is) in
    let more = one_more first others in
    omega arith
none_at (first ∷ others) p (suc i) none at is =
    let more = one_more first others in
    let left : primary_count others ≡ 0 = omega arith in
    none_at others p i left at is

-- behind the one that is counted there is none
none_behind : (first : Perspective) (others : List Perspective) → primary_count (first ∷ others) ≡ 1 → first.primary ≡ true → primary_count others ≡ 0
none_behind first others e is =
    let one = counted first is in
    let more = one_more first others in
    omega arith

-- another that isn't counted leaves it behind
one_behind : (first : Perspective) (others : List Perspective) → primary_count (first ∷ others) ≡ 1 → first.primary ≡ false → primary_count others ≡ 1
one_behind first others e is =
    let none : weight first ≡ 0 = ap (λ (b : Bool). cond {A = ℕ} b 1 0) is in
    let more = one_more first others in
    omega arith

-- where one is counted, two members are one
same_at : (members : List Perspective) (p q : Perspective) (i j : ℕ) → primary_count members ≡ 1 → slice_get members i ≡ Some p → p.primary ≡ true
    → slice_get members j ≡ Some q → q.primary ≡ true → q ≡ p
same_at [] p q i j e at is there other = cc at
same_at (first ∷ others) p q zero zero e at is there other = cc (at, there)
same_at (first ∷ others) p q zero (suc j) e at is there other =
    let same : first ≡ p = cc at in
    absurd (none_at others q j (none_behind first others e (ap (λ (r : Perspective). r.primary) same ∙ is)) there other)
same_at (first ∷ others) p q (suc i) zero e at is there other =
    let same : first ≡ q = cc there in
    absurd (none_at others p i (none_behind first others e (ap (λ (r : Perspective). r.primary) same ∙ other)) at is)
same_at (first ∷ others) p q (suc i) (suc j) e at is there other =
    let go : (b : Bool) → first.primary ≡ b → q ≡ p
    = λ b. elim b as (λ v. first.primary ≡ v → q ≡ p) [
      | true ↦ λ h. absurd (none_at others p i (none_behind first others e h) at is)
      | false ↦ λ h. same_at others p q i j (one_behind first others e h) at is there other
    ] in
    go first.primary refl

-- what is found is one
pub found_is : (members : List Perspective) (p : Perspective) → find (λ (q : Perspective). q.primary) members ≡ Some p → IsPrimaryOf members p
found_is [] p e = cc e
found_is (first ∷ others) p e =
    let go : (b : Bool) → first.primary ≡ b → cond b (Some first) (find (λ (q : Perspective). q.primary) others) ≡ Some p → IsPrimaryOf (first ∷ others) p
    = λ b. elim b as (λ v. first.primary ≡ v → cond v (Some first) (find (λ (q : Perspective). q.primary) others) ≡ Some p → IsPrimaryOf (first ∷ others) p) [
      | true ↦ λ h k. let same : first ≡ p = cc k in record { place = 0; here = k; is = ap (λ (r : Perspective). r.primary) (sym same) ∙ h }
      | false ↦ λ h k. let back = found_is others p k in record { place = suc back.place; here = back.here; is = back.is }
    ] in
    go first.primary refl e

-- where one is counted, one is found
pub is_found : (members : List Perspective) → primary_count members ≡ 1 → find (λ (q : Perspective). q.primary) members ≡ None → ⊥
is_found [] e none = cc e
is_found (first ∷ others) e none =
    let go : (b : Bool) → first.primary ≡ b → cond b (Some first) (find (λ (q : Perspective). q.primary) others) ≡ None → ⊥
    = λ b. elim b as (λ v. first.primary ≡ v → cond v (Some first) (find (λ (q : Perspective). q.primary) others) ≡ None → ⊥) [
      | true ↦ λ h k. cc k
      | false ↦ λ h k. is_found others (one_behind first others e h) k
    ] in
    go first.primary refl none

-- and it is the only one
pub found_alone : (members : List Perspective) (p : Perspective) → primary_count members ≡ 1 → find (λ (q : Perspective). q.primary) members ≡ Some p
    → HasNoOther members p
found_alone members p e found =
    let is = found_is members p found in
    record { same = λ other h. same_at members p other is.place h.place e is.here is.is h.here h.is }

pub ruleset primaries = (found_is, is_found, found_alone)
