-- Names and their one text.
use Rattle.std.proofs.Common.{◌≡◌, ◌≢◌, ℕ, ◌+◌, ◌≤◌, Bool, true, false, cond, List, [], ◌∷◌, ◌++◌, length, codes, Option, Some, None, Result, Ok, Err, refl, sym, ap, subst, ◌∙◌, inl, inr, arith, append_assoc, append-nil, length-append}
use Rattle.std.specs.Prelude.{bytes_eq, nat_lt, IfSome, IfNone, if◌then◌else◌}
use Rattle.std.specs.List.{flat_map}
use Rattle.std.proofs.lemmas.Bool.{ltb-false, cases_Bool, cond-true, cond-false}
use Rattle.std.proofs.lemmas.List.{append_cancel_left}
use Rattle.std.proofs.lemmas.List.Concat.{flat_map-cons}
use Rattle.std.proofs.lemmas.Slice.Eq.{bytes_eq-Decides}
use Rattle.gate_base.specs.declared.name.Name.{Name}
use Rattle.gate_base.specs.declared.name.Target.TheVariants.{Dns}
use Rattle.names_core.specs.declared.fault.NameFault.{NameFault}
use Rattle.names_core.specs.declared.fault.NameFault.TheVariants.{Empty, LongLabel, LongName}
use Rattle.names_core.specs.Name.{labels_break, labels_of, name_of, name_read, unless}
use Rattle.names_core.specs.Target.{name_text}
use Rattle.gate_entries.specs.Target.{labels_text, IsTarget, if_its_text, name_with, as_said, name_behind}

-- ---- how long a name's text is

-- where a value is read, the third of the rules is kept
third_kept : (a b c : Bool) (x y z : NameFault) (rest : Option NameFault) (value read : Name)
    → unless (cond a (Some x) (cond b (Some y) (cond c (Some z) rest))) value ≡ Ok read → c ≡ false
third_kept true b c x y z rest value read is = absurd cc
third_kept false true c x y z rest value read is = absurd cc
third_kept false false true x y z rest value read is = absurd cc
third_kept false false false x y z rest value read is = refl

-- no name is read from a text that is too long
read_size : (text : List ℕ) (name : Name) → name_read text ≡ Ok name → length text ≤ 253
read_size text name is =
    let long = third_kept (labels_break Empty (length text) (labels_of text)) (labels_break LongLabel (length text) (labels_of text)) (nat_lt 253 (length text)) Empty LongLabel LongName _ (name_of text) name is in
    ltb-false 253 (length text) long

pub text_size : (name : Name) → IsTarget (Dns name) → length (labels_text name.labels) ≤ 253
text_size name is =
    let front = if name.wild then codes "*." else [] in
    omega (arith, read_size (name_text name) name is, length-append front (labels_text name.labels))

-- the first label, and the others with a full stop before each
labels_joined : (label : List ℕ) (labels : List (List ℕ)) → labels_text (label ∷ labels) ≡ label ++ flat_map (λ next. 46 ∷ next) labels
labels_joined label [] = sym (append-nil label)
labels_joined label (next ∷ labels) =
    ap (λ (text : List ℕ). label ++ 46 ∷ text) (labels_joined next labels) ∙ ap (λ (text : List ℕ). label ++ text) (sym (flat_map-cons (λ next. 46 ∷ next) next labels))

pub labels_behind : (out label : List ℕ) (labels : List (List ℕ)) → (out ++ label) ++ flat_map (λ next. 46 ∷ next) labels ≡ out ++ labels_text (label ∷ labels)
labels_behind out label labels = append_assoc out label _ ∙ ap (λ (text : List ℕ). out ++ text) (sym (labels_joined label labels))

pub labels_length : (label : List ℕ) (labels : List (List ℕ)) → length (labels_text (label ∷ labels)) ≡ length label + length (flat_map (λ next. 46 ∷ next) labels)
labels_length label labels = ap length (labels_joined label labels) ∙ length-append label (flat_map (λ next. 46 ∷ next) labels)

-- ---- the name whose one text a text is

abbrev done : Name → Result Name NameFault
done name = Ok name

ok_is : (left right : Name) → done left ≡ done right → left ≡ right
ok_is left right is = cc

some_is : (left right : Name) → Some left ≡ Some right → left ≡ right
some_is left right is = cc

pub one_text : (left right : Name) → IsTarget (Dns left) → IsTarget (Dns right) → name_text left ≡ name_text right → left ≡ right
one_text left right is_left is_right same = ok_is left right (sym is_left ∙ ap name_read same ∙ is_right)

name_with-text : (name : Name) → IsTarget (Dns name) → name_with (name_text name) ≡ Some name
unfolding name_with
name_with-text name is =
    ap (if_its_text (name_text name)) is ∙ cond-true (bytes_eq (name_text name) (name_text name)) (Some name) None ((bytes_eq-Decides (name_text name) (name_text name)).1 refl)

abbrev HasText : Name → List ℕ → Type 0
HasText name text = IsTarget (Dns name) × (name_text name ≡ text)

its_text : (text : List ℕ) (name read : Name) → name_read text ≡ Ok read → if_its_text text (Ok read) ≡ Some name → HasText name text
its_text text name read is found =
    elim (cases_Bool (bytes_eq (name_text read) text)) [
      | inl holds ↦
          let same : name_text read ≡ text = (bytes_eq-Decides (name_text read) text).0 holds in
          let one : read ≡ name = some_is read name (sym (cond-true _ (Some read) None holds) ∙ found) in
          subst (λ (n : Name). HasText n text) one (ap name_read same ∙ is, same)
      | inr fails ↦
          let wrong : None ≡ Some name = sym (cond-false _ (Some read) None fails) ∙ found in
          absurd cc
    ]

found_by : (text : List ℕ) (name : Name) (read : Result Name NameFault) → name_read text ≡ read → if_its_text text read ≡ Some name → HasText name text
found_by text name (Ok read) is found = its_text text name read is found
found_by text name (Err fault) is found = absurd cc

name_with-found : (text : List ℕ) (name : Name) → name_with text ≡ Some name → HasText name text
unfolding name_with
name_with-found text name found = found_by text name (name_read text) refl found

name_with-none : (text : List ℕ) → name_with text ≡ None → (name : Name) → IsTarget (Dns name) → name_text name ≢ text
name_with-none text none name is same =
    let wrong : None ≡ Some name = sym none ∙ ap name_with (sym same) ∙ name_with-text name is in
    absurd cc

pub every_found : (text : List ℕ) (found : Option Name) → name_with text ≡ found → IfSome found (λ name. HasText name text)
every_found text None is = tt
every_found text (Some name) is = name_with-found text name is

pub every_none : (text : List ℕ) (found : Option Name) → name_with text ≡ found → IfNone found ((name : Name) → IsTarget (Dns name) → name_text name ≢ text)
every_none text None is = name_with-none text is
every_none text (Some name) is = tt

-- ---- the same behind the `*.` of a wildcard

said : (name : Name) (wild : Bool) → name.wild ≡ wild → as_said wild (Some name) ≡ Some name
said name true is = rw is refl
said name false is = rw is refl

pub name_behind-text : (name : Name) → IsTarget (Dns name) → name_behind name.wild (labels_text name.labels) ≡ Some name
unfolding name_behind
name_behind-text name is = ap (as_said name.wild) (name_with-text name is) ∙ said name name.wild refl

-- what is said is so
pub record IsSaid (wild : Bool) (text : List ℕ) (name : Name) : Type 0 where
  pub is : IsTarget (Dns name)
  pub flag : name.wild ≡ wild
  pub spelled : labels_text name.labels ≡ text

said_true : (found : Option Name) (name : Name) → as_said true found ≡ Some name → (found ≡ Some name) × (name.wild ≡ true)
said_true None name is = absurd cc
said_true (Some found) name is =
    elim (cases_Bool found.wild) [
      | inl holds ↦
          let same : Some found ≡ Some name = sym (cond-true _ (Some found) None holds) ∙ is in
          (same, subst (λ (n : Name). n.wild ≡ true) (some_is found name same) holds)
      | inr fails ↦
          let wrong : None ≡ Some name = sym (cond-false _ (Some found) None fails) ∙ is in
          absurd cc
    ]

said_false : (found : Option Name) (name : Name) → as_said false found ≡ Some name → (found ≡ Some name) × (name.wild ≡ false)
said_false None name is = absurd cc
said_false (Some found) name is =
    elim (cases_Bool found.wild) [
      | inl holds ↦
          let wrong : None ≡ Some name = sym (cond-true _ None (Some found) holds) ∙ is in
          absurd cc
      | inr fails ↦
          let same : Some found ≡ Some name = sym (cond-false _ None (Some found) fails) ∙ is in
          (same, subst (λ (n : Name). n.wild ≡ false) (some_is found name same) fails)
    ]

pub name_behind-found : (wild : Bool) (text : List ℕ) (name : Name) → name_behind wild text ≡ Some name → IsSaid wild text name
unfolding name_behind
name_behind-found true text name found =
    let both = said_true (name_with (codes "*." ++ text)) name found in
    let has = name_with-found (codes "*." ++ text) name both.0 in
    let whole : codes "*." ++ labels_text name.labels ≡ codes "*." ++ text = ap (λ (w : Bool). (if w then codes "*." else []) ++ labels_text name.labels) (sym both.1) ∙ has.1 in
    record { is = has.0; flag = both.1; spelled = append_cancel_left (codes "*.") (labels_text name.labels) text whole }
name_behind-found false text name found =
    let both = said_false (name_with text) name found in
    let has = name_with-found text name both.0 in
    record { is = has.0; flag = both.1; spelled = ap (λ (w : Bool). (if w then codes "*." else []) ++ labels_text name.labels) (sym both.1) ∙ has.1 }
