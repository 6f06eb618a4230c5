-- Rows that are joined one after another.
use Rattle.std.proofs.Common.{◌≡◌, ℕ, List, [], ◌++◌, Option, Some, None, refl, sym, ap, ◌∙◌, append_assoc}
use Rattle.std.proofs.lemmas.List.{append-nil}
use Rattle.csr10.specs.Shape.{joined}

pub joined_step : (old new : List (List ℕ)) (found back : Option (List (List ℕ))) → joined (Some old) found ≡ Some new → joined (Some old) (joined found back) ≡ joined (Some new) back
joined_step old new None back e = absurd (cc e)
joined_step old new (Some more) None e = refl
joined_step old new (Some more) (Some others) e =
    let same : old ++ more ≡ new = cc e in
    ap (λ (r : List (List ℕ)). Some r) (sym (append_assoc old more others) ∙ ap (λ (r : List (List ℕ)). r ++ others) same)

pub joined_end : (row : List (List ℕ)) → joined (Some row) (Some []) ≡ Some row
joined_end row = ap (λ (r : List (List ℕ)). Some r) (append-nil row)

pub joined_none : (old : List (List ℕ)) (found : Option (List (List ℕ))) → joined (Some old) found ≡ None → found ≡ None
joined_none old None e = refl
joined_none old (Some more) e = absurd (cc e)

pub joined_start : (found : Option (List (List ℕ))) → joined (Some []) found ≡ found
joined_start None = refl
joined_start (Some more) = refl

pub ruleset rows = (joined_step, joined_end, joined_none, joined_start)
