-- Domain names are what the test of a domain name passes.
use Rattle.std.proofs.Common.{◌≡◌, ◌∙◌, refl, sym, ap, subst, ℕ, Bool, true, ◌||◌, inl, inr, List, [], ◌∷◌}
use Rattle.std.specs.Prelude.{◌==◌}
use Rattle.std.specs.List.{AllByRecursion, list_all, slice_split, onto_first, join_with_byte}
use Rattle.std.proofs.lemmas.List.Splits.{join_with_byte-slice_split}
use Rattle.caa_climb.specs.IssueValue.{AllBytes, IsLabel, IsDomain}
use Rattle.caa_climb.specs.Reading.{is_label, is_domain}
use Rattle.caa_climb.proofs.Bytes.{truth, All-append, All-weaken, Lacks-from}
use Rattle.caa_climb.proofs.Labels.{and_both, label_is, label_passes, is_label_byte, label_bytes}
use Rattle.caa_climb.proofs.Places.{slice_split-at, slice_split-none}

-- there is always a first part
pub parts : (c : ℕ) (bytes : List ℕ) → (first : List ℕ) × (others : List (List ℕ)) × (slice_split (λ b. b == c) bytes ≡ first ∷ others)
parts c [] = ([], [], refl)
parts c (b ∷ bytes) =
    let rest = parts c bytes in
    elim (truth (b == c)) [
      | inl same ↦ ([], slice_split (λ x. x == c) bytes, rw same refl)
      | inr differs ↦ (b ∷ rest.0, rest.1, rw differs (ap (onto_first b) rest.2))
    ]

pub joined : (c : ℕ) (bytes first : List ℕ) (others : List (List ℕ)) → slice_split (λ b. b == c) bytes ≡ first ∷ others →
    bytes ≡ join_with_byte c (first ∷ others)
joined c bytes first others e = sym (join_with_byte-slice_split c bytes) ∙ ap (join_with_byte c) e

labels_are : (labels : List (List ℕ)) → list_all is_label labels ≡ true → AllByRecursion IsLabel labels
labels_are [] h = tt
labels_are (label ∷ labels) h =
    let both = and_both (is_label label) (list_all is_label labels) h in
    (label_is label both.0, labels_are labels both.1)

pub domain_is : (bytes : List ℕ) → is_domain bytes ≡ true → IsDomain bytes
domain_is bytes h =
    let all = parts 46 bytes in
    record {
      first = all.0;
      others = all.1;
      labels = labels_are (all.0 ∷ all.1) (sym (ap (list_all is_label) all.2) ∙ h);
      printed = joined 46 bytes all.0 all.1 all.2;
    }

split_labels : (first : List ℕ) (others : List (List ℕ)) → AllByRecursion IsLabel (first ∷ others) →
    slice_split (λ b. b == 46) (join_with_byte 46 (first ∷ others)) ≡ first ∷ others
split_labels first [] h = slice_split-none 46 first (Lacks-from is_label_byte 46 refl first (label_bytes first h.0))
split_labels first (next ∷ others) h =
    slice_split-at 46 first (join_with_byte 46 (next ∷ others)) (Lacks-from is_label_byte 46 refl first (label_bytes first h.0))
    ∙ ap (λ labels. first ∷ labels) (split_labels next others h.1)

labels_pass : (labels : List (List ℕ)) → AllByRecursion IsLabel labels → list_all is_label labels ≡ true
labels_pass [] h = refl
labels_pass (label ∷ labels) h = let one = label_passes label h.0 in rw one (labels_pass labels h.1)

pub domain_passes : (bytes : List ℕ) → IsDomain bytes → is_domain bytes ≡ true
domain_passes bytes h =
    ap is_domain h.printed ∙ ap (list_all is_label) (split_labels h.first h.others h.labels) ∙ labels_pass (h.first ∷ h.others) h.labels

pub ruleset domains = (domain_is, domain_passes)

-- a byte of a label, or a dot
abbrev pub is_domain_byte : ℕ → Bool
is_domain_byte b = is_label_byte b || b == 46

label_byte : (b : ℕ) → is_label_byte b ≡ true → is_domain_byte b ≡ true
label_byte b h = rw h refl

label_in_domain : (label : List ℕ) → IsLabel label → AllBytes is_domain_byte label
label_in_domain label h = All-weaken _ _ label_byte label (label_bytes label h)

joined_bytes : (first : List ℕ) (others : List (List ℕ)) → AllByRecursion IsLabel (first ∷ others) →
    AllBytes is_domain_byte (join_with_byte 46 (first ∷ others))
joined_bytes first [] h = label_in_domain first h.0
joined_bytes first (next ∷ others) h =
    All-append _ first (46 ∷ join_with_byte 46 (next ∷ others)) (label_in_domain first h.0) (refl, joined_bytes next others h.1)

pub domain_bytes : (bytes : List ℕ) → IsDomain bytes → AllBytes is_domain_byte bytes
domain_bytes bytes h =
    let P : List ℕ → Type 0 = λ xs. AllBytes is_domain_byte xs in
    subst P (sym h.printed) (joined_bytes h.first h.others h.labels)
