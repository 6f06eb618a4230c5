-- Rows that are joined one after another.
use Rattle.std.proofs.Common.{◌≡◌, List, [], ◌++◌, Option, Some, None, refl, sym, ap, ◌∙◌, append_assoc}
use Rattle.std.proofs.lemmas.List.{append-nil}
use Rattle.tbs_shape.specs.Shape.{joined}

pub joined_step : {A : Type 0} (old new : List A) (found back : Option (List A)) → joined (Some old) found ≡ Some new
    → joined (Some old) (joined found back) ≡ joined (Some new) back
joined_step old new None back e = absurd (cc e)
joined_step old new (Some more) None e = refl
joined_step old new (Some more) (Some others) e =
    let same : old ++ more ≡ new = cc e in
    ap Some (sym (append_assoc old more others) ∙ ap (λ r. r ++ others) same)

pub joined_end : {A : Type 0} (row : List A) → joined (Some row) (Some []) ≡ Some row
joined_end row = ap Some (append-nil row)

pub joined_none : {A : Type 0} (old : List A) (found : Option (List A)) → joined (Some old) found ≡ None → found ≡ None
joined_none old None e = refl
joined_none old (Some more) e = absurd (cc e)

pub joined_start : {A : Type 0} (found : Option (List A)) → joined (Some []) found ≡ found
joined_start None = refl
joined_start (Some more) = refl

pub ruleset rows = (joined_step, joined_end, joined_none, joined_start)
