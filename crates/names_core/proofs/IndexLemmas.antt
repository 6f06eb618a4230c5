-- A set of labels after an insert.
use Rattle.std.proofs.Common.{◌≡◌, ℕ, Bool, true, false, ◌&&◌, ◌||◌, List, [], ◌∷◌, Vec, Global, refl, sym, ap, ◌∙◌, arith}
use Rattle.std.specs.Ordering.{nat_cmp, is_eq, match_ordering, MatchOrdering}
use Rattle.std.specs.declared.cmp.Ordering.{Ordering}
use Rattle.std.specs.declared.cmp.Ordering.TheVariants.{Less, Equal, Greater}
use Rattle.std.specs.Cmp.Lexicographic.{slice_cmp}
use Rattle.std.specs.BTreeSet.{insert_key}
use Rattle.std.specs.List.{list_any}
use Rattle.std.specs.Str.{bytes_eq}
use Rattle.std.proofs.lemmas.Cmp.{same_from_slice_cmp}
use Rattle.std.proofs.lemmas.Bool.Decides.{nat_tests}
use Rattle.std.proofs.lemmas.Slice.Eq.{slice_eq-Decides, bytes_eq-Decides}
use Rattle.names_core.specs.Suffix.{labels_eq}

abbrev compare_bytes : List ℕ → List ℕ → Ordering
compare_bytes = slice_cmp nat_cmp

abbrev compare_labels : List (List ℕ) → List (List ℕ) → Ordering
compare_labels = slice_cmp compare_bytes

bytes_more : (x y : ℕ) (xs ys : List ℕ) (o : Ordering) → o ≡ nat_cmp x y → MatchOrdering o (bytes_eq (x ∷ xs) (y ∷ ys) ≡ false) (bytes_eq (x ∷ xs) (y ∷ ys) ≡ bytes_eq xs ys) (bytes_eq (x ∷ xs) (y ∷ ys) ≡ false)
bytes_more x y xs ys o is = grind (arith, nat_tests)

is_eq-compare_bytes : (xs ys : List ℕ) → is_eq (compare_bytes xs ys) ≡ bytes_eq xs ys
is_eq-compare_bytes xs ys = same_from_slice_cmp nat_cmp is_eq bytes_eq refl (λ _ _. refl) (λ _ _. refl) bytes_more xs ys (compare_bytes xs ys) refl

labels_more_by : (o : Ordering) (same rest : Bool) → is_eq o ≡ same → MatchOrdering o ((same && rest) ≡ false) ((same && rest) ≡ rest) ((same && rest) ≡ false)
labels_more_by Less same rest is = ap (λ b. b && rest) (sym is)
labels_more_by Equal same rest is = ap (λ b. b && rest) (sym is)
labels_more_by Greater same rest is = ap (λ b. b && rest) (sym is)

labels_more : (x y : List ℕ) (xs ys : List (List ℕ)) (o : Ordering) → o ≡ compare_bytes x y → MatchOrdering o (labels_eq (x ∷ xs) (y ∷ ys) ≡ false) (labels_eq (x ∷ xs) (y ∷ ys) ≡ labels_eq xs ys) (labels_eq (x ∷ xs) (y ∷ ys) ≡ false)
labels_more x y xs ys o is = labels_more_by o (bytes_eq x y) (labels_eq xs ys) (ap is_eq is ∙ is_eq-compare_bytes x y)

is_eq-compare_labels : (xs ys : List (List ℕ)) → is_eq (compare_labels xs ys) ≡ labels_eq xs ys
is_eq-compare_labels xs ys = same_from_slice_cmp compare_bytes is_eq labels_eq refl (λ _ _. refl) (λ _ _. refl) labels_more xs ys (compare_labels xs ys) refl

equal_labels : (xs ys : List (List ℕ)) → compare_labels xs ys ≡ Equal → xs ≡ ys
equal_labels xs ys same = (slice_eq-Decides bytes_eq-Decides xs ys (labels_eq xs ys) refl).0 (sym (is_eq-compare_labels xs ys) ∙ ap is_eq same)

or_again : (a b : Bool) → (a || b) ≡ (a || (a || b))
or_again true b = refl
or_again false b = refl

or_swap : (a b c : Bool) → (a || (b || c)) ≡ (b || (a || c))
or_swap true true c = refl
or_swap true false c = refl
or_swap false b c = refl

abbrev finds : List (List ℕ) → Vec (List ℕ) Global → Bool
finds query key = is_eq (compare_labels query key.items)

abbrev place : Vec (List ℕ) Global → Vec (List ℕ) Global → Ordering
place key other = compare_labels key.items other.items

any-placed : (query : List (List ℕ)) (key x : Vec (List ℕ) Global) (keys placed : List (Vec (List ℕ) Global)) (o : Ordering) → place key x ≡ o → list_any (finds query) placed ≡ (finds query key || list_any (finds query) keys) → list_any (finds query) (match_ordering o (key ∷ x ∷ keys) (x ∷ keys) (x ∷ placed)) ≡ (finds query key || list_any (finds query) (x ∷ keys))
any-placed query key x keys placed Less is later = refl
any-placed query key x keys placed Equal is later =
    ap (λ labels. is_eq (compare_labels query labels) || list_any (finds query) keys) (sym (equal_labels key.items x.items is))
    ∙ or_again (finds query key) (list_any (finds query) keys)
    ∙ ap (λ labels. finds query key || (is_eq (compare_labels query labels) || list_any (finds query) keys)) (equal_labels key.items x.items is)
any-placed query key x keys placed Greater is later =
    ap (λ b. finds query x || b) later ∙ or_swap (finds query x) (finds query key) (list_any (finds query) keys)

any-insert_key : (query : List (List ℕ)) (key : Vec (List ℕ) Global) (keys : List (Vec (List ℕ) Global)) → list_any (finds query) (insert_key place keys key) ≡ (finds query key || list_any (finds query) keys)
any-insert_key query key [] = refl
any-insert_key query key (x ∷ keys) = any-placed query key x keys (insert_key place keys key) (place key x) refl (any-insert_key query key keys)

-- after an insert a set has the key, and what it had
pub any-inserted : (query : List (List ℕ)) (key : Vec (List ℕ) Global) (old new : List (Vec (List ℕ) Global)) (labels : List (List ℕ)) → key.items ≡ labels → new ≡ insert_key place old key → list_any (finds query) new ≡ (labels_eq query labels || list_any (finds query) old)
any-inserted query key old new labels items is =
    ap (list_any (finds query)) is ∙ any-insert_key query key old
    ∙ ap (λ b. b || list_any (finds query) old) (is_eq-compare_labels query key.items ∙ ap (labels_eq query) items)
