-- An empty name among the issuers permits nobody.
use Rattle.std.proofs.Common.{◌≡◌, ℕ, Bool, not, ◌&&◌, ◌||◌, List, [], ◌∷◌, Option, Some, None, refl, ap, ◌∙◌}
use Rattle.std.specs.List.{list_any, position}
use Rattle.std.specs.Str.{str_eq_ignore_ascii_case}
use Rattle.gate_base.specs.declared.seen.CaaRow.{CaaRow}
use Rattle.caa_climb.specs.Reading.{read_value}
use Rattle.caa_climb.specs.Permission.{has_tag, is_critical, restricting_tag, is_among, names_one, named, permits, is_allowed, judged, permission_of}

-- where two tests agree, they agree on lists
any_same : {A : Type 0} (f g : A → Bool) → ((x : A) → f x ≡ g x) → (xs : List A) → list_any f xs ≡ list_any g xs
any_same f g same [] = refl
any_same f g same (x ∷ xs) = ap (λ b. b || list_any f xs) (same x) ∙ ap (λ b. g x || b) (any_same f g same xs)

-- an issuer that isn't empty is the same as none that is
same_as_named : (byte : ℕ) (bytes : List ℕ) (issuers : List (List ℕ)) →
    list_any (λ one. str_eq_ignore_ascii_case one (byte ∷ bytes)) (named issuers) ≡ list_any (λ one. str_eq_ignore_ascii_case one (byte ∷ bytes)) issuers
same_as_named byte bytes [] = refl
same_as_named byte bytes ([] ∷ issuers) = same_as_named byte bytes issuers
same_as_named byte bytes ((first ∷ rest) ∷ issuers) =
    ap (λ b. str_eq_ignore_ascii_case (first ∷ rest) (byte ∷ bytes) || b) (same_as_named byte bytes issuers)

among_named : (issuers : List (List ℕ)) (issuer : List ℕ) → is_among (named issuers) issuer ≡ is_among issuers issuer
among_named issuers [] = refl
among_named issuers (byte ∷ bytes) = same_as_named byte bytes issuers

one_named : (issuers : List (List ℕ)) (read : Option (List ℕ × List ℕ)) → names_one (named issuers) read ≡ names_one issuers read
one_named issuers None = refl
one_named issuers (Some p) = among_named issuers p.0

allowed_named : (tag : List ℕ) (rows : List CaaRow) (issuers : List (List ℕ)) → is_allowed tag rows (named issuers) ≡ is_allowed tag rows issuers
allowed_named tag rows issuers =
    ap (λ b. not (list_any (has_tag tag) rows) || b)
    (any_same (λ row. has_tag tag row && permits (named issuers) row) (λ row. has_tag tag row && permits issuers row)
    (λ row. ap (λ b. has_tag tag row && b) (one_named issuers (read_value row.value))) rows)

pub permission_named : (rows : List CaaRow) (wild : Bool) (issuers : List (List ℕ)) → permission_of rows wild (named issuers) ≡ permission_of rows wild issuers
permission_named rows wild issuers =
    ap (judged (position is_critical rows)) (allowed_named (restricting_tag rows wild) rows issuers)
