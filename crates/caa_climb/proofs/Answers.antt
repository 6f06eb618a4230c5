-- Where climbing stops: at the first answer that isn't empty.
use Rattle.std.proofs.Common.{◌≡◌, refl, sym, subst, ℕ, zero, suc, ◌<◌, ◌≤◌, ◌+◌, true, false, inl, inr, List, [], ◌∷◌, arith}
use Rattle.std.specs.Prelude.{Option, Some, None}
use Rattle.std.specs.List.{prefix_len, slice_get}
use Rattle.std.proofs.lemmas.Bool.{cond_below}
use Rattle.gate_base.specs.declared.seen.CaaAnswer.{CaaAnswer}
use Rattle.gate_base.specs.declared.seen.CaaAnswer.TheVariants.{Set}
use Rattle.gate_base.specs.declared.seen.CaaRow.{CaaRow}
use Rattle.caa_climb.specs.Climb.{is_empty_answer, told, relevant}
use Rattle.caa_climb.proofs.Bytes.{truth}

-- there is no answer, or one that isn't empty
abbrev pub Stops : Option CaaAnswer → Type 0
Stops None = Unit {0}
Stops (Some answer) = is_empty_answer answer ≡ false

first_stop : (answers : List CaaAnswer) (k : ℕ) → k ≤ prefix_len is_empty_answer answers → Stops (slice_get answers k) →
    prefix_len is_empty_answer answers ≡ k
first_stop [] k within stop = omega arith
first_stop (a ∷ answers) zero within stop = rw stop refl
first_stop (a ∷ answers) (suc k) within stop =
    elim (truth (is_empty_answer a)) [
      | inl empty ↦ (let more : suc k ≤ 1 + prefix_len is_empty_answer answers = rw empty at within in
          let rest = first_stop answers k (omega arith) stop in rw empty (omega arith))
      | inr full ↦ (let none : suc k ≤ 0 = rw full at within in absurd (omega arith))
    ]

-- the answer at which climbing stops is what it tells
pub relevant-stop : (answers : List CaaAnswer) (k labels : ℕ) (o : Option CaaAnswer) →
    k ≤ prefix_len is_empty_answer answers → k < labels → slice_get answers k ≡ o → Stops o → told k o ≡ relevant answers labels
relevant-stop answers k labels o within below e stop =
    let P : Option CaaAnswer → Type 0 = λ x. Stops x in
    let at = first_stop answers k within (subst P (sym e) stop) in
    rw (at, e) (cond_below k labels (told k o) _ below)

pub empty_further : (answers : List CaaAnswer) (k : ℕ) (a : CaaAnswer) → k ≤ prefix_len is_empty_answer answers →
    slice_get answers k ≡ Some a → is_empty_answer a ≡ true → k + 1 ≤ prefix_len is_empty_answer answers
empty_further [] k a within e empty = cc (e)
empty_further (x ∷ answers) zero a within e empty =
    let here : is_empty_answer x ≡ true = cc in rw here (omega arith)
empty_further (x ∷ answers) (suc k) a within e empty =
    elim (truth (is_empty_answer x)) [
      | inl hollow ↦ (let more : suc k ≤ 1 + prefix_len is_empty_answer answers = rw hollow at within in
          let rest = empty_further answers k a (omega arith) e empty in rw hollow (omega arith))
      | inr full ↦ (let none : suc k ≤ 0 = rw full at within in absurd (omega arith))
    ]

pub set_stops : (ttl : ℕ) (rows : List CaaRow) → (rows ≡ [] → ⊥) → is_empty_answer (Set ttl rows) ≡ false
set_stops ttl [] some = absurd (some refl)
set_stops ttl (row ∷ rows) some = refl

pub set_empty : (ttl : ℕ) (rows : List CaaRow) → rows ≡ [] → is_empty_answer (Set ttl rows) ≡ true
set_empty ttl rows none = rw none refl
