-- Names, addresses and targets that are read are those that were written, and what was written is read again.
use Rattle.std.proofs.Common.{◌≡◌, ℕ, suc, ◌^◌, Bool, true, false, cond, eqb, List, [], ◌∷◌, ◌++◌, length, Option, Some, None, Result, Ok, Err, refl, sym, ap, subst, arith, inl, inr}
use Rattle.std.specs.Int.{w8}
use Rattle.std.proofs.lemmas.Bool.{eqb-true}
use Rattle.gate_base.specs.declared.name.Address.TheVariants.{V4, V6}
use Rattle.gate_base.specs.declared.name.Name.{Name}
use Rattle.gate_base.specs.declared.name.Target.{Target}
use Rattle.gate_base.specs.declared.name.Target.TheVariants.{Dns, Ip}
use Rattle.gate_entries.specs.Field.{counted, truth, bytes_at, counted_at, truth_at}
use Rattle.gate_entries.specs.Target.{labels_text, target_bytes, IsTarget, name_behind, target_or, text_at, name_at, v4_at, v6_at, target_at}
use Rattle.gate_entries.proofs.Names.{IsSaid, text_size, name_behind-text, name_behind-found}
use Rattle.gate_entries.proofs.Fields.{IsBytes, IsBytes-rest, bind_ok, bind_is, ok_is, as_made, Takes, takes_both, takes_behind, bytes_takes, bytes_again, wide8, counted_takes, counted_again, truth_takes, truth_again, IsField, chosen}

pub only_met : {A : Type 0} (b : Bool) (left : ℕ) (r : Result A ℕ) (y : A) → cond b r (Err left) ≡ Ok y → (b ≡ true) × (r ≡ Ok y)
only_met true left r y e = (refl, e)
only_met false left r y e = absurd cc

-- what stands behind a target's kind
abbrev TakesTarget : ℕ → List ℕ → Target × List ℕ → Type 0
TakesTarget kind bytes x = Takes (kind ∷ bytes) (target_bytes x.0) x.1 × IsTarget x.0

-- the name that was found, and what stands behind it
found_met : (left : ℕ) (rest : List ℕ) (found : Option Name) (x : Target × List ℕ) → target_or left rest found ≡ Ok x → (name : Name) × (found ≡ Some name) × ((Dns name, rest) ≡ x)
found_met left rest None x e = absurd cc
found_met left rest (Some name) x e = (name, refl, ok_is (Dns name, rest) x e)

text_takes : (wild : Bool) (bytes : List ℕ) (x : Target × List ℕ) → IsBytes bytes → text_at wild bytes ≡ Ok x
    → (name : Name) × (x.0 ≡ Dns name) × IsSaid wild (labels_text name.labels) name × Takes bytes (counted w8 (labels_text name.labels)) x.1
unfolding text_at
text_takes wild bytes x small e =
    let text = bind_ok (counted_at w8 bytes) _ x e in
    let takes = counted_takes w8 (2 ^ 8) wide8 bytes text.0 small text.1 in
    let met = found_met (length bytes) text.0.1 (name_behind wild text.0.0) x text.2 in
    let said = name_behind-found wild text.0.0 met.0 met.1 in
    let spelled : Takes bytes (counted w8 (labels_text met.0.labels)) text.0.1 = subst (λ (t : List ℕ). Takes bytes (counted w8 t) text.0.1) (sym said.spelled) takes.0 in (
      met.0,
      ap (λ (y : Target × List ℕ). y.0) (sym met.2),
      record { is = said.is; flag = said.flag; spelled = refl },
      subst (λ (rest : List ℕ). Takes bytes (counted w8 (labels_text met.0.labels)) rest) (ap (λ (y : Target × List ℕ). y.1) met.2) spelled,
    )

name_takes : (bytes : List ℕ) (x : Target × List ℕ) → IsBytes bytes → name_at bytes ≡ Ok x → TakesTarget 1 bytes x
unfolding name_at
name_takes bytes x small e =
    let wild = bind_ok (truth_at bytes) _ x e in
    let first = truth_takes bytes wild.0 small wild.1 in
    let second = text_takes wild.0.0 wild.0.1 x first.small wild.2 in
    let name = second.0 in
    let flag : Takes bytes (truth name.wild) wild.0.1 = subst (λ (w : Bool). Takes bytes (truth w) wild.0.1) (sym second.2.flag) first in
    let both = takes_both flag second.3 in
    subst (λ (target : Target). TakesTarget 1 bytes (target, x.1)) (sym second.1) (takes_behind both, second.2.is)

v4_takes : (bytes : List ℕ) (x : Target × List ℕ) → IsBytes bytes → v4_at bytes ≡ Ok x → TakesTarget 2 bytes x
unfolding v4_at
v4_takes bytes x small e =
    let octets = bind_ok (bytes_at 4 bytes) _ x e in
    let takes = bytes_takes 4 bytes octets.0 small octets.1 in
    let made : Target × List ℕ = (Ip (V4 octets.0.0), octets.0.1) in
    as_made (TakesTarget 2 bytes) made x octets.2 (takes_behind takes.0, takes.1)

v6_takes : (bytes : List ℕ) (x : Target × List ℕ) → IsBytes bytes → v6_at bytes ≡ Ok x → TakesTarget 3 bytes x
unfolding v6_at
v6_takes bytes x small e =
    let octets = bind_ok (bytes_at 16 bytes) _ x e in
    let takes = bytes_takes 16 bytes octets.0 small octets.1 in
    let made : Target × List ℕ = (Ip (V6 octets.0.0), octets.0.1) in
    as_made (TakesTarget 3 bytes) made x octets.2 (takes_behind takes.0, takes.1)

of_kind : (kind known : ℕ) (bytes : List ℕ) (x : Target × List ℕ) → eqb kind known ≡ true → TakesTarget known bytes x → TakesTarget kind bytes x
of_kind kind known bytes x test takes = subst (λ (k : ℕ). TakesTarget k bytes x) (sym (eqb-true kind known test)) takes

target_takes : (bytes : List ℕ) (x : Target × List ℕ) → IsBytes bytes → target_at bytes ≡ Ok x → Takes bytes (target_bytes x.0) x.1 × IsTarget x.0
unfolding target_at
target_takes [] x small e = absurd cc
target_takes (kind ∷ bytes) x small e =
    let rest = IsBytes-rest kind bytes small in
    elim (chosen (eqb kind 1) (name_at bytes) _ (Ok x) e) [
      | inl is1 ↦ of_kind kind 1 bytes x is1.0 (name_takes bytes x rest is1.1)
      | inr not1 ↦ elim (chosen (eqb kind 2) (v4_at bytes) _ (Ok x) not1.1) [
        | inl is2 ↦ of_kind kind 2 bytes x is2.0 (v4_takes bytes x rest is2.1)
        | inr not2 ↦
            let g = only_met (eqb kind 3) (suc (length bytes)) (v6_at bytes) x not2.1 in
            of_kind kind 3 bytes x g.0 (v6_takes bytes x rest g.1)
      ]
    ]

-- ---- and read again

text_again : (name : Name) (rest : List ℕ) → IsTarget (Dns name) → text_at name.wild (counted w8 (labels_text name.labels) ++ rest) ≡ Ok (Dns name, rest)
unfolding text_at
text_again name rest is =
    let text = labels_text name.labels in
    bind_is (counted_at w8 (counted w8 text ++ rest)) (text, rest) _ (Ok (Dns name, rest)) (counted_again w8 (2 ^ 8) wide8 text rest (omega (arith, text_size name is)))
    (ap (target_or (length (counted w8 text ++ rest)) rest) (name_behind-text name is))

name_again : (name : Name) (rest : List ℕ) → IsTarget (Dns name) → name_at ((truth name.wild ++ counted w8 (labels_text name.labels)) ++ rest) ≡ Ok (Dns name, rest)
unfolding name_at
name_again name rest is =
    bind_is (truth_at (truth name.wild ++ (counted w8 (labels_text name.labels) ++ rest))) (name.wild, counted w8 (labels_text name.labels) ++ rest) _ (Ok (Dns name, rest))
    (truth_again name.wild (counted w8 (labels_text name.labels) ++ rest)) (text_again name rest is)

target_again : (target : Target) (rest : List ℕ) → IsTarget target → target_at (target_bytes target ++ rest) ≡ Ok (target, rest)
unfolding target_at v4_at v6_at
target_again (Dns name) rest is = name_again name rest is
target_again (Ip (V4 octets)) rest is = bind_is (bytes_at 4 (octets ++ rest)) (octets, rest) _ (Ok (Ip (V4 octets), rest)) (bytes_again 4 octets rest is) refl
target_again (Ip (V6 octets)) rest is = bind_is (bytes_at 16 (octets ++ rest)) (octets, rest) _ (Ok (Ip (V6 octets), rest)) (bytes_again 16 octets rest is) refl

pub target_field : IsField target_bytes IsTarget target_at
target_field = record { takes = target_takes; again = target_again }
