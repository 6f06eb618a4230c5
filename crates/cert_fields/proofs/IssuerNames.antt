-- A SEQUENCE in one more SEQUENCE: the tree around it has one level more.
use Rattle.std.proofs.Common.{◌≡◌, ◌==◌, ℕ, ◌<◌, ◌≤◌, ◌^◌, true, false, ◌↔◌, IsTrue, List, [], ◌∷◌, ◌++◌, length, refl, sym, ap, ◌∙◌, subst, arith}
use Rattle.std.proofs.lemmas.Bool.{eqb-true, and_parts}
use Rattle.std.proofs.lemmas.List.{append-nil}
use Rattle.der_text.specs.declared.tree.Tree.{Tree}
use Rattle.der_text.specs.View.{nodes}
use Rattle.der_text.specs.Content.{keeps_rule}
use Rattle.der_text.specs.Tree.{Node, primitive, Nodes, constructed, also, no_nodes, element, spelling, IsElement, IsInForm, AreInForm, IsDer}
use Rattle.cert_fields.specs.Sequences.{is_sequence, is_one_sequence, is_sequence_of_one}
use Rattle.cert_fields.specs.Profile.{IsIssuerName}

-- a SEQUENCE of one SEQUENCE
abbrev pub in_one : Nodes → Node
in_one parts = constructed 48 (also (constructed 48 parts) no_nodes)

rule_of_sequence : (content : List ℕ) → IsTrue (keeps_rule 48 content)
unfolding keeps_rule
rule_of_sequence content = refl

sequence : (content : List ℕ) → length content < 2 ^ 32 → IsElement 48 content
sequence content size = record { one_byte_tag = λ e. cc e; size = size; rule = rule_of_sequence content }

-- an element's spelling determines its content
abbrev pub OneContent : Type 0
OneContent = (tag other : ℕ) (content others : List ℕ) → length content < 2 ^ 32 → length others < 2 ^ 32 → element tag content ≡ element other others → content ≡ others

-- what spells a SEQUENCE spells, in one more, a tree
pub in_one_more : (bytes : List ℕ) (parts : Nodes) → length bytes ≤ 1024 → bytes ≡ spelling (constructed 48 parts) → IsInForm 31 (constructed 48 parts) → IsDer (element 48 bytes) (in_one parts)
unfolding IsInForm AreInForm
in_one_more bytes parts short spelled form =
    let same : bytes ≡ spelling (constructed 48 parts) ++ [] = spelled ∙ sym (append-nil (spelling (constructed 48 parts))) in
    let few : length bytes < 2 ^ 32 = omega arith in
    record {
      spelled = ap (element 48) same;
      form = (refl, sequence _ (subst (λ c. length c < 2 ^ 32) same few), (form, tt));
    }

-- and the other way round
pub out_of_one : OneContent → (bytes : List ℕ) (parts : Nodes) → length bytes ≤ 1024 → IsDer (element 48 bytes) (in_one parts) → IsIssuerName bytes
unfolding IsInForm AreInForm
out_of_one one bytes parts short der =
    let form = der.form in
    let few : length bytes < 2 ^ 32 = omega arith in
    let same : bytes ≡ spelling (constructed 48 parts) ++ [] = one 48 48 bytes _ few form.1.size der.spelled in
    record { short = short; parts = parts; spelled = same ∙ append-nil (spelling (constructed 48 parts)); form = form.2.0 }

one_of_48 : (tag : ℕ) (parts : Nodes) → tag == 48 ≡ true → constructed tag parts ≡ constructed 48 parts
one_of_48 tag parts e = ap (λ t. constructed t parts) (eqb-true tag 48 e)

sequence_is : (tree : Node) → is_sequence tree ≡ true → (parts : Nodes) × (tree ≡ constructed 48 parts)
sequence_is (primitive tag content) e = cc e
sequence_is (constructed tag parts) e = (parts, one_of_48 tag parts e)

one_is : (parts : Nodes) → is_one_sequence parts ≡ true → (inner : Nodes) × (parts ≡ also (constructed 48 inner) no_nodes)
one_is no_nodes e = cc e
one_is (also first no_nodes) e = let found = sequence_is first e in (found.0, ap (λ n. also n no_nodes) found.1)
one_is (also first (also second others)) e = cc e

in_one_is : (tree : Node) → is_sequence_of_one tree ≡ true → (parts : Nodes) × (tree ≡ in_one parts)
in_one_is (primitive tag content) e = cc e
in_one_is (constructed tag parts) e =
    let both = and_parts _ _ e in
    let found = one_is parts both.1 in
    (found.0, one_of_48 tag parts both.0 ∙ ap (constructed 48) found.1)

-- where the tree that is read is known, so is whether the bytes are a name
pub name_by_tree : OneContent → (bytes whole : List ℕ) (tree : Node) → length bytes ≤ 1024 → whole ≡ element 48 bytes → IsDer whole tree
    → ((other : Node) → IsDer whole other → other ≡ tree) → IsTrue (is_sequence_of_one tree) ↔ IsIssuerName bytes
name_by_tree one bytes whole tree short is der only = (
  λ h. let found = in_one_is tree h in
      out_of_one one bytes found.0 short (subst (λ t. IsDer (element 48 bytes) t) found.1 (subst (λ b. IsDer b tree) is der)),
  λ name.
      let same = only (in_one name.parts) (subst (λ b. IsDer b (in_one name.parts)) (sym is) (in_one_more bytes name.parts short name.spelled name.form)) in
      ap is_sequence_of_one (sym same),
)

-- where none is, they are none
pub no_name : (bytes whole : List ℕ) → length bytes ≤ 1024 → whole ≡ element 48 bytes → ((tree : Node) → ¬ (IsDer whole tree)) → ¬ (IsIssuerName bytes)
no_name bytes whole short is none name =
    none (in_one name.parts) (subst (λ b. IsDer b (in_one name.parts)) (sym is) (in_one_more bytes name.parts short name.spelled name.form))

-- several parts are not one
pub several : (trees : List Tree) → 2 ≤ length trees → false ≡ is_one_sequence (nodes trees)
several [] h = absurd (omega arith)
several (tree ∷ []) h = absurd (omega arith)
several (tree ∷ other ∷ trees) h = refl
