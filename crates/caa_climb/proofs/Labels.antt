-- Labels are what the test of a label passes.
use Rattle.std.proofs.Common.{◌≡◌, ◌∙◌, refl, sym, ap, subst, ℕ, zero, suc, Bool, true, false, ◌&&◌, ◌||◌, inl, inr, List, [], ◌∷◌, ◌++◌}
use Rattle.std.specs.Prelude.{◌==◌, replicate}
use Rattle.std.specs.List.{AllByRecursion, flat_map}
use Rattle.std.specs.Char.{is_ascii_alphanumeric}
use Rattle.std.proofs.lemmas.Bool.{eqb-true}
use Rattle.std.proofs.lemmas.List.{append_assoc}
use Rattle.caa_climb.specs.IssueValue.{AllBytes, IsLabel, Run, print_run}
use Rattle.caa_climb.specs.Reading.{is_label, is_label_rest}
use Rattle.caa_climb.proofs.Bytes.{truth, All-append}

abbrev AreRuns : List Run → Type 0
AreRuns runs = AllByRecursion (λ run. is_ascii_alphanumeric run.last ≡ true) runs

-- the bytes are runs, of which there is one at least where a hyphen stood last
abbrev IsRest : Bool → List ℕ → Type 0
IsRest true bytes = (runs : List Run) × AreRuns runs × (bytes ≡ flat_map print_run runs)
IsRest false bytes = (run : Run) × (runs : List Run) × AreRuns (run ∷ runs) × (bytes ≡ flat_map print_run (run ∷ runs))

with_letter : (closed : Bool) (b : ℕ) (bytes : List ℕ) → is_ascii_alphanumeric b ≡ true → IsRest true bytes → IsRest closed (b ∷ bytes)
with_letter true b bytes letter h =
    (record { hyphens = 0; last = b } ∷ h.0, (letter, h.1), ap (λ xs. b ∷ xs) h.2)
with_letter false b bytes letter h =
    (record { hyphens = 0; last = b }, h.0, (letter, h.1), ap (λ xs. b ∷ xs) h.2)

with_hyphen : (closed : Bool) (bytes : List ℕ) → IsRest false bytes → IsRest closed (45 ∷ bytes)
with_hyphen true bytes h =
    (record { hyphens = suc h.0.hyphens; last = h.0.last } ∷ h.1, h.2, ap (λ xs. 45 ∷ xs) h.3)
with_hyphen false bytes h =
    (record { hyphens = suc h.0.hyphens; last = h.0.last }, h.1, h.2, ap (λ xs. 45 ∷ xs) h.3)

pub and_both : (s t : Bool) → (s && t) ≡ true → (s ≡ true) × (t ≡ true)
and_both true true h = (refl, refl)
and_both true false h = cc (h)
and_both false t h = cc (h)

rest_is : (closed : Bool) (bytes : List ℕ) → is_label_rest closed bytes ≡ true → IsRest closed bytes
rest_is true [] h = ([], tt, refl)
rest_is false [] h = cc (h)
rest_is closed (b ∷ bytes) h =
    elim (truth (is_ascii_alphanumeric b)) [
      | inl letter ↦ with_letter closed b bytes letter (rest_is true bytes (rw letter at h))
      | inr mark ↦ (let both = and_both (b == 45) (is_label_rest false bytes) (rw mark at h) in
          let P : ℕ → Type 0 = λ c. IsRest closed (c ∷ bytes) in
          subst P (sym (eqb-true b 45 both.0)) (with_hyphen closed bytes (rest_is false bytes both.1)))
    ]

-- what the test passes is a label
pub label_is : (bytes : List ℕ) → is_label bytes ≡ true → IsLabel bytes
label_is [] h = cc (h)
label_is (b ∷ bytes) h =
    let both = and_both (is_ascii_alphanumeric b) (is_label_rest true bytes) h in
    let rest = rest_is true bytes both.1 in
    record { first = b; runs = rest.0; first_is = both.0; runs_are = rest.1; printed = ap (λ xs. b ∷ xs) rest.2 }

after_hyphens : (closed : Bool) (n b : ℕ) (more : List ℕ) → is_ascii_alphanumeric b ≡ true →
    is_label_rest closed (replicate n 45 ++ b ∷ more) ≡ is_label_rest true more
after_hyphens closed zero b more letter = rw letter refl
after_hyphens closed (suc n) b more letter = after_hyphens false n b more letter

runs_pass : (runs : List Run) → AreRuns runs → is_label_rest true (flat_map print_run runs) ≡ true
runs_pass [] h = refl
runs_pass (run ∷ runs) h =
    ap (is_label_rest true) (append_assoc (replicate run.hyphens 45) (run.last ∷ []) (flat_map print_run runs))
    ∙ after_hyphens true run.hyphens run.last (flat_map print_run runs) h.0
    ∙ runs_pass runs h.1

-- a label passes the test
pub label_passes : (bytes : List ℕ) → IsLabel bytes → is_label bytes ≡ true
label_passes bytes h =
    ap is_label h.printed ∙ (let first = h.first_is in rw first (runs_pass h.runs h.runs_are))

-- a letter, a digit or a hyphen
abbrev pub is_label_byte : ℕ → Bool
is_label_byte b = is_ascii_alphanumeric b || b == 45

hyphens_pass : (n : ℕ) → AllBytes is_label_byte (replicate n 45)
hyphens_pass zero = tt
hyphens_pass (suc n) = (refl, hyphens_pass n)

letter_passes : (b : ℕ) → is_ascii_alphanumeric b ≡ true → is_label_byte b ≡ true
letter_passes b h = rw h refl

runs_bytes : (runs : List Run) → AreRuns runs → AllBytes is_label_byte (flat_map print_run runs)
runs_bytes [] h = tt
runs_bytes (run ∷ runs) h =
    All-append _ (print_run run) (flat_map print_run runs)
    (All-append _ (replicate run.hyphens 45) (run.last ∷ []) (hyphens_pass run.hyphens) (letter_passes run.last h.0, tt))
    (runs_bytes runs h.1)

pub label_bytes : (bytes : List ℕ) → IsLabel bytes → AllBytes is_label_byte bytes
label_bytes bytes h =
    let P : List ℕ → Type 0 = λ xs. AllBytes is_label_byte xs in
    subst P (sym h.printed) (letter_passes h.first h.first_is, runs_bytes h.runs h.runs_are)
