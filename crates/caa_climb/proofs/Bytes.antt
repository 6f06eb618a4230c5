-- Where a separator stands, and what is left without blanks.
use Rattle.std.proofs.Common.{◌≡◌, ◌∙◌, refl, sym, ap, ℕ, Bool, true, false, cond, ◌&&◌, ◌⊎◌, inl, inr, List, [], ◌∷◌, ◌++◌}
use Rattle.std.specs.Prelude.{Option, Some, None, ◌==◌}
use Rattle.std.specs.List.{AllByRecursion}
use Rattle.std.specs.Option.{option_map}
use Rattle.std.proofs.lemmas.Bool.{eqb-true, eq-eqb}
use Rattle.std.proofs.lemmas.List.{append_assoc, append-nil}
use Rattle.caa_climb.specs.IssueValue.{AllBytes, is_blank}
use Rattle.caa_climb.specs.Reading.{cut_at, is_nil, without_lead, without_trail, trimmed}

pub truth : (t : Bool) → (t ≡ true) ⊎ (t ≡ false)
truth true = inl refl
truth false = inr refl

-- a byte that passes a test that c fails isn't c
pub other : (p : ℕ → Bool) (c b : ℕ) → p c ≡ false → p b ≡ true → (b == c) ≡ false
other p c b fails passes = elim (truth (b == c)) [ inl same ↦ (let e : p b ≡ p c = ap p (eqb-true b c same) in cc) | inr differs ↦ differs ]

pub All-append : {X : Type 0} (P : X → Type 0) (xs ys : List X) → AllByRecursion P xs → AllByRecursion P ys → AllByRecursion P (xs ++ ys)
All-append P [] ys h k = k
All-append P (x ∷ xs) ys h k = (h.0, All-append P xs ys h.1 k)

pub All-weaken : {X : Type 0} (P Q : X → Type 0) → ((x : X) → P x → Q x) → (xs : List X) → AllByRecursion P xs → AllByRecursion Q xs
All-weaken P Q f [] h = tt
All-weaken P Q f (x ∷ xs) h = (f x h.0, All-weaken P Q f xs h.1)

-- no byte is c
abbrev pub Lacks : ℕ → List ℕ → Type 0
Lacks c bytes = AllByRecursion (λ b. (b == c) ≡ false) bytes

-- no byte is a blank
abbrev pub IsSolid : List ℕ → Type 0
IsSolid bytes = AllByRecursion (λ b. is_blank b ≡ false) bytes

pub Lacks-from : (p : ℕ → Bool) (c : ℕ) → p c ≡ false → (bytes : List ℕ) → AllBytes p bytes → Lacks c bytes
Lacks-from p c fails bytes h = All-weaken _ _ (λ b passes. other p c b fails passes) bytes h

not_blank : (b : ℕ) → (b == 32) ≡ false → (b == 9) ≡ false → is_blank b ≡ false
not_blank b h k = rw (h, k) refl

pub IsSolid-from : (p : ℕ → Bool) → p 32 ≡ false → p 9 ≡ false → (bytes : List ℕ) → AllBytes p bytes → IsSolid bytes
IsSolid-from p space tab bytes h = All-weaken _ _ (λ b passes. not_blank b (other p 32 b space passes) (other p 9 b tab passes)) bytes h

-- ---- the first byte c

pub cut_at-found : (c : ℕ) (xs ys : List ℕ) → Lacks c xs → cut_at c (xs ++ c ∷ ys) ≡ Some (xs, ys)
cut_at-found c [] ys h = let same = eq-eqb c c refl in rw same refl
cut_at-found c (x ∷ xs) ys h = let differs = h.0 in let rest = cut_at-found c xs ys h.1 in rw (differs, rest) refl

pub cut_at-none : (c : ℕ) (xs : List ℕ) → Lacks c xs → cut_at c xs ≡ None
cut_at-none c [] h = refl
cut_at-none c (x ∷ xs) h = let differs = h.0 in let rest = cut_at-none c xs h.1 in rw (differs, rest) refl

-- what a cut says of the bytes
abbrev pub IsCut : ℕ → List ℕ → Option (List ℕ × List ℕ) → Type 0
IsCut c bytes None = Lacks c bytes
IsCut c bytes (Some p) = Lacks c p.0 × (bytes ≡ p.0 ++ c ∷ p.1)

cut_further : (c b : ℕ) (bytes : List ℕ) (o : Option (List ℕ × List ℕ)) → (b == c) ≡ false → IsCut c bytes o →
    IsCut c (b ∷ bytes) (option_map (λ p. (b ∷ p.0, p.1)) o)
cut_further c b bytes None differs h = (differs, h)
cut_further c b bytes (Some p) differs h = ((differs, h.0), ap (λ xs. b ∷ xs) h.1)

pub cut_is : (c : ℕ) (bytes : List ℕ) → IsCut c bytes (cut_at c bytes)
cut_is c [] = tt
cut_is c (b ∷ bytes) =
    elim (truth (b == c)) [
      | inl same ↦ rw same (tt, ap (λ x. x ∷ bytes) (eqb-true b c same))
      | inr differs ↦ rw differs (cut_further c b bytes (cut_at c bytes) differs (cut_is c bytes))
    ]

-- ---- blanks at the front

pub without_lead-blanks : (lead xs : List ℕ) → AllBytes is_blank lead → without_lead (lead ++ xs) ≡ without_lead xs
without_lead-blanks [] xs h = refl
without_lead-blanks (b ∷ lead) xs h = let blank = h.0 in rw blank (without_lead-blanks lead xs h.1)

pub without_lead-solid : (b : ℕ) (xs : List ℕ) → is_blank b ≡ false → without_lead (b ∷ xs) ≡ b ∷ xs
without_lead-solid b xs h = rw h refl

pub lead_is : (xs : List ℕ) → (lead : List ℕ) × AllBytes is_blank lead × (xs ≡ lead ++ without_lead xs)
lead_is [] = ([], tt, refl)
lead_is (b ∷ xs) =
    elim (truth (is_blank b)) [
      | inl blank ↦ (let rest = lead_is xs in (b ∷ rest.0, (blank, rest.1), rw blank (ap (λ ys. b ∷ ys) rest.2)))
      | inr solid ↦ ([], tt, rw solid refl)
    ]

-- ---- blanks at the end

pub without_trail-all : (trail : List ℕ) → AllBytes is_blank trail → without_trail trail ≡ []
without_trail-all [] h = refl
without_trail-all (b ∷ trail) h = let blank = h.0 in let rest = without_trail-all trail h.1 in rw (blank, rest) refl

pub without_trail-blanks : (xs trail : List ℕ) → AllBytes is_blank trail → without_trail (xs ++ trail) ≡ without_trail xs
without_trail-blanks [] trail h = without_trail-all trail h
without_trail-blanks (b ∷ xs) trail h = let rest = without_trail-blanks xs trail h in rw rest refl

pub without_trail-solid : (xs : List ℕ) → IsSolid xs → without_trail xs ≡ xs
without_trail-solid [] h = refl
without_trail-solid (b ∷ xs) h = let solid = h.0 in let rest = without_trail-solid xs h.1 in rw (solid, rest) refl

-- what ends in solid bytes, at least one, has no blanks at its end
is_nil-behind : (xs : List ℕ) (c : ℕ) (cs : List ℕ) → is_nil (xs ++ c ∷ cs) ≡ false
is_nil-behind [] c cs = refl
is_nil-behind (x ∷ xs) c cs = refl

and_false : (t : Bool) → (t && false) ≡ false
and_false true = refl
and_false false = refl

pub without_trail-behind : (xs : List ℕ) (c : ℕ) (cs : List ℕ) → IsSolid (c ∷ cs) → without_trail (xs ++ c ∷ cs) ≡ xs ++ c ∷ cs
without_trail-behind [] c cs h = without_trail-solid (c ∷ cs) h
without_trail-behind (b ∷ xs) c cs h =
    let rest = without_trail-behind xs c cs h in
    let more = is_nil-behind xs c cs in
    let never = and_false (is_blank b) in
    rw (rest, more, never) refl

trail_on : (b : ℕ) (xs ys trail : List ℕ) → AllBytes is_blank trail → xs ≡ ys ++ trail →
    (rest : List ℕ) × AllBytes is_blank rest × (b ∷ xs ≡ cond (is_blank b && is_nil ys) [] (b ∷ ys) ++ rest)
trail_on b xs [] trail h e =
    elim (truth (is_blank b)) [
      | inl blank ↦ (b ∷ trail, (blank, h), rw blank (ap (λ zs. b ∷ zs) e))
      | inr solid ↦ (trail, h, rw solid (ap (λ zs. b ∷ zs) e))
    ]
trail_on b xs (y ∷ ys) trail h e = (trail, h, (let never = and_false (is_blank b) in rw never (ap (λ zs. b ∷ zs) e)))

pub trail_is : (xs : List ℕ) → (trail : List ℕ) × AllBytes is_blank trail × (xs ≡ without_trail xs ++ trail)
trail_is [] = ([], tt, refl)
trail_is (b ∷ xs) = let rest = trail_is xs in trail_on b xs (without_trail xs) rest.0 rest.1 rest.2

-- ---- blanks at both ends

pub trimmed_is : (xs : List ℕ) →
    (lead : List ℕ) × (trail : List ℕ) × AllBytes is_blank lead × AllBytes is_blank trail × (xs ≡ lead ++ trimmed xs ++ trail)
trimmed_is xs =
    let front = lead_is xs in
    let back = trail_is (without_lead xs) in
    (front.0, back.0, front.1, back.1, front.2 ∙ ap (λ ys. front.0 ++ ys) back.2 ∙ sym (append_assoc front.0 (trimmed xs) back.0))

solid_between : (xs trail : List ℕ) → IsSolid xs → AllBytes is_blank trail → without_trail (without_lead (xs ++ trail)) ≡ xs
solid_between [] trail h k =
    let e = without_lead-blanks trail [] k in
    let f : trail ++ [] ≡ trail = append-nil trail in
    ap without_trail (sym (ap without_lead f) ∙ e)
solid_between (b ∷ xs) trail h k =
    ap without_trail (without_lead-solid b (xs ++ trail) h.0) ∙ without_trail-blanks (b ∷ xs) trail k ∙ without_trail-solid (b ∷ xs) h

pub trimmed-between : (lead xs trail : List ℕ) → AllBytes is_blank lead → IsSolid xs → AllBytes is_blank trail →
    trimmed (lead ++ xs ++ trail) ≡ xs
trimmed-between lead xs trail h solid k =
    ap trimmed (append_assoc lead xs trail) ∙ ap without_trail (without_lead-blanks lead (xs ++ trail) h) ∙ solid_between xs trail solid k

pub trail_drops : (xs : List ℕ) (b : ℕ) → is_blank b ≡ true → without_trail (xs ++ b ∷ []) ≡ without_trail xs
trail_drops xs b blank = without_trail-blanks xs (b ∷ []) (blank, tt)

pub trail_stays : (xs : List ℕ) (b : ℕ) → is_blank b ≡ false → without_trail (xs ++ b ∷ []) ≡ xs ++ b ∷ []
trail_stays xs b solid = without_trail-behind xs b [] (solid, tt)
