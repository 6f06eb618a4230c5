-- Targets that are read one after another.
use Rattle.std.proofs.Common.{◌≡◌, ℕ, ◌+◌, List, [], ◌∷◌, ◌++◌, length, Some, None, Result, Ok, Err, refl, sym, ap, append_assoc, arith}
use Rattle.std.proofs.lemmas.List.{append-nil, length-append}
use Rattle.gate_base.specs.declared.name.Target.{Target}
use Rattle.csr10.specs.Names.{in_front}

-- what is read behind some targets
abbrev pub following : List Target → Result (List Target) ℕ → Result (List Target) ℕ
following targets (Ok others) = Ok (targets ++ others)
following targets (Err place) = Err (length targets + place)

pub following_step : (targets : List Target) (target : Target) (others : Result (List Target) ℕ) → following targets (in_front (Some target) others) ≡ following (targets ++ target ∷ []) others
following_step targets target (Ok others) = ap (λ (r : List Target). Ok r) (sym (append_assoc targets (target ∷ []) others))
following_step targets target (Err place) =
    let same : length targets + (place + 1) ≡ length (targets ++ target ∷ []) + place = omega (arith, length-append targets (target ∷ [])) in
    ap (λ (i : ℕ). Err i) same

pub following_end : (targets : List Target) → following targets (Ok []) ≡ Ok targets
following_end targets = ap (λ (r : List Target). Ok r) (append-nil targets)

pub following_start : (read : Result (List Target) ℕ) → following [] read ≡ read
following_start (Ok targets) = refl
following_start (Err place) = ap (λ (i : ℕ). Err i) (omega arith)

pub following_none : (targets : List Target) (others : Result (List Target) ℕ) → following targets (in_front None others) ≡ Err (length targets)
following_none targets others = ap (λ (i : ℕ). Err i) (omega arith)

pub ruleset targets = (following_step, following_end, following_start, following_none)
