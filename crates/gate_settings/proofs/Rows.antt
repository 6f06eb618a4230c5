-- Which row is found.
use Rattle.std.proofs.Common.{◌≡◌, ℕ, zero, suc, ◌<◌, Bool, true, false, cond, List, [], ◌∷◌, Some, None, refl, sym, subst, arith}
use Rattle.std.specs.Bool.{Decides}
use Rattle.std.specs.List.{find, slice_get}
use Rattle.std.proofs.lemmas.Slice.Eq.{bytes_eq-Decides}
use Rattle.gate_settings.specs.declared.row.CallerRow.{CallerRow}
use Rattle.gate_settings.specs.Callers.{IsFirstRow, IsOfNoRow, HasToken, HasId, with_token, with_id}

module _ (test : CallerRow → Bool) (Wanted : CallerRow → Type 0) (decides : (row : CallerRow) → Decides (test row) (Wanted row)) where
  unwanted : (first row : CallerRow) → test first ≡ false → first ≡ row → ¬ (Wanted row)
  unwanted first row t same wanted = cc (t, (decides first).1 (subst Wanted (sym same) wanted))

  behind : (first : CallerRow) (others : List CallerRow) → test first ≡ false → (place : ℕ)
      → ((i : ℕ) (other : CallerRow) → i < place → slice_get others i ≡ Some other → ¬ (Wanted other))
      → (i : ℕ) (other : CallerRow) → i < suc place → slice_get (first ∷ others) i ≡ Some other → ¬ (Wanted other)
  behind first others t place none zero other before at = unwanted first other t (cc at)
  behind first others t place none (suc i) other before at = none i other (omega arith) at

  after : (first : CallerRow) (others : List CallerRow) → test first ≡ false → ((i : ℕ) (row : CallerRow) → slice_get others i ≡ Some row → ¬ (Wanted row))
      → (i : ℕ) (row : CallerRow) → slice_get (first ∷ others) i ≡ Some row → ¬ (Wanted row)
  after first others t none zero row at = unwanted first row t (cc at)
  after first others t none (suc i) row at = none i row at

  pub found_first : (rows : List CallerRow) (row : CallerRow) → find test rows ≡ Some row → IsFirstRow Wanted rows row
  found_first [] row e = cc e
  found_first (first ∷ others) row e =
      let go : (b : Bool) → test first ≡ b → cond b (Some first) (find test others) ≡ Some row → IsFirstRow Wanted (first ∷ others) row
      = λ b. elim b as (λ v. test first ≡ v → cond v (Some first) (find test others) ≡ Some row → IsFirstRow Wanted (first ∷ others) row) [
        | true ↦ λ t k. let same : first ≡ row = cc k in
            record { place = 0; here = k; is = subst Wanted same ((decides first).0 t); first = λ i other before at. absurd (omega arith) }
        | false ↦ λ t k. let back = found_first others row k in
            record { place = suc back.place; here = back.here; is = back.is; first = behind first others t back.place back.first }
      ] in
      go (test first) refl e

  pub none_found : (rows : List CallerRow) → find test rows ≡ None → IsOfNoRow Wanted rows
  none_found [] e = record { none = λ i row at. cc at }
  none_found (first ∷ others) e =
      let go : (b : Bool) → test first ≡ b → cond b (Some first) (find test others) ≡ None → IsOfNoRow Wanted (first ∷ others)
      = λ b. elim b as (λ v. test first ≡ v → cond v (Some first) (find test others) ≡ None → IsOfNoRow Wanted (first ∷ others)) [
        | true ↦ λ t k. cc k
        | false ↦ λ t k. let back = none_found others k in record { none = after first others t back.none }
      ] in
      go (test first) refl e

pub first_token : (token : List ℕ) (rows : List CallerRow) (row : CallerRow) → with_token token rows ≡ Some row → IsFirstRow (HasToken token) rows row
first_token token rows row e = found_first _ (HasToken token) (λ row. bytes_eq-Decides row.token token) rows row e

pub no_token : (token : List ℕ) (rows : List CallerRow) → with_token token rows ≡ None → IsOfNoRow (HasToken token) rows
no_token token rows e = none_found _ (HasToken token) (λ row. bytes_eq-Decides row.token token) rows e

pub first_id : (id : List ℕ) (rows : List CallerRow) (row : CallerRow) → with_id id rows ≡ Some row → IsFirstRow (HasId id) rows row
first_id id rows row e = found_first _ (HasId id) (λ row. bytes_eq-Decides row.id id) rows row e

pub no_id : (id : List ℕ) (rows : List CallerRow) → with_id id rows ≡ None → IsOfNoRow (HasId id) rows
no_id id rows e = none_found _ (HasId id) (λ row. bytes_eq-Decides row.id id) rows e

pub ruleset tokens = (first_token, no_token)

pub ruleset ids = (first_id, no_id)
