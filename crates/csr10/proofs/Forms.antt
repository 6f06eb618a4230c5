-- The forms of what is read.
use Rattle.std.proofs.Common.{◌≡◌, ◌==◌, ◌↔◌, ℕ, Bool, true, false, List, Option, Some, None, if◌then◌else◌, refl, ap, ◌∙◌}
use Rattle.std.proofs.lemmas.Bool.{eqb-true}
use Rattle.std.proofs.lemmas.Option.{option_and_then_some, cond_some}
use Rattle.der_text.specs.Tree.{Node, primitive, constructed, Nodes, no_nodes, also}
use Rattle.der_text.specs.Parts.{parts_with, primitive_at, constructed_at, are_none}
use Rattle.csr10.specs.Shape.{info_of, algorithm_of, request_of, attribute_of, behind_boolean, extension_of}
use Rattle.csr10.specs.Form.{info_tree, algorithm_tree, IsRequestTree, attribute_tree, with_boolean, extension_tree, IsExtensionTree}

record IsInfo (parts : Nodes) (version : List ℕ) (attributes : Nodes) : Type 0 where
  pub subject : Nodes
  pub key : Nodes
  pub is : constructed 48 parts ≡ info_tree version subject key attributes

record IsAlgorithm (parts : Nodes) (name : List ℕ) : Type 0 where
  pub parameters : Nodes
  pub is : constructed 48 parts ≡ algorithm_tree name parameters

record HasValue (parts : Nodes) (x : List ℕ × Nodes) : Type 0 where
  pub critical : Option (List ℕ)
  pub is : parts ≡ with_boolean critical (also (primitive 4 x.0) x.1)

read_again : (identifier : List ℕ) (critical : Option (List ℕ)) (value : List ℕ) → extension_of (extension_tree identifier critical value) ≡ Some (identifier, value)
read_again identifier None value = refl
read_again identifier (Some content) value = refl

-- a part is read exactly where it stands
module _ (parts_stand : (tag : ℕ) (tree : Node) (parts : Nodes)
    → (parts_with tag tree ≡ Some parts) ↔ (tree ≡ constructed tag parts))
    (primitive_stands : (tag : ℕ) (nodes : Nodes) (content : List ℕ) (others : Nodes)
    → (primitive_at tag nodes ≡ Some (content, others)) ↔ (nodes ≡ also (primitive tag content) others))
    (constructed_stands : (tag : ℕ) (nodes parts others : Nodes)
    → (constructed_at tag nodes ≡ Some (parts, others)) ↔ (nodes ≡ also (constructed tag parts) others))
    (none_stand : (nodes : Nodes) → (are_none nodes ≡ true) ↔ (nodes ≡ no_nodes)) where
  primitive_is : (tag : ℕ) (nodes : Nodes) (x : List ℕ × Nodes) → primitive_at tag nodes ≡ Some x → nodes ≡ also (primitive tag x.0) x.1
  primitive_is tag nodes x = (primitive_stands tag nodes x.0 x.1).0

  constructed_is : (tag : ℕ) (nodes : Nodes) (x : Nodes × Nodes) → constructed_at tag nodes ≡ Some x → nodes ≡ also (constructed tag x.0) x.1
  constructed_is tag nodes x = (constructed_stands tag nodes x.0 x.1).0

  info_is : (parts : Nodes) (x : List ℕ × Nodes) → info_of parts ≡ Some x → IsInfo parts x.0 x.1
  info_is parts x e =
      option_and_then_some _ (primitive_at 2 parts) x e (λ version v e.
      option_and_then_some _ (constructed_at 48 version.1) x e (λ subject s e.
      option_and_then_some _ (constructed_at 48 subject.1) x e (λ key k e.
      option_and_then_some _ (constructed_at 160 key.1) x e (λ attributes a e.
      let end = cond_some (are_none attributes.1) (version.0, attributes.0) x e in
      let none = (none_stand attributes.1).0 end.0 in
      let same = end.1 in
      let first = ap (λ (p : List ℕ × Nodes). p.0) same in
      let second = ap (λ (p : List ℕ × Nodes). p.1) same in
      record {
        subject = subject.0;
        key = key.0;
        is = cc (primitive_is 2 parts version v, constructed_is 48 version.1 subject s, constructed_is 48 subject.1 key k, constructed_is 160 key.1 attributes a, none, first, second);
      }))))

  algorithm_is : (parts : Nodes) (name : List ℕ) → algorithm_of parts ≡ Some name → IsAlgorithm parts name
  algorithm_is parts name e =
      option_and_then_some _ (primitive_at 6 parts) name e (λ found p same.
      record { parameters = found.1; is = cc (primitive_is 6 parts found p, same) })

  request_is : (tree : Node) (x : List ℕ × Nodes) → request_of tree ≡ Some x → IsRequestTree tree x.0 x.1
  request_is tree x e =
      option_and_then_some _ (parts_with 48 tree) x e (λ parts p e.
      option_and_then_some _ (constructed_at 48 parts) x e (λ info i e.
      option_and_then_some _ (constructed_at 48 info.1) x e (λ algorithm a e.
      option_and_then_some _ (algorithm_of algorithm.0) x e (λ name n e.
      option_and_then_some _ (primitive_at 3 algorithm.1) x e (λ signature s e.
      option_and_then_some _ (info_of info.0) x e (λ found f e.
      let end = cond_some (are_none signature.1) found x e in
      let none = (none_stand signature.1).0 end.0 in
      let same = end.1 in
      let inner = info_is info.0 found f in
      let named = algorithm_is algorithm.0 name n in
      let first = ap (λ (p : List ℕ × Nodes). p.0) same in
      let second = ap (λ (p : List ℕ × Nodes). p.1) same in
      record {
        subject = inner.subject;
        key = inner.key;
        name = name;
        parameters = named.parameters;
        signature = signature.0;
        is = cc ((parts_stand 48 tree parts).0 p, constructed_is 48 parts info i, constructed_is 48 info.1 algorithm a, primitive_is 3 algorithm.1 signature s, inner.is, named.is, none, first, second);
      }))))))

  pub requests : (tree : Node) (version : List ℕ) (attributes : Nodes) → (request_of tree ≡ Some (version, attributes)) ↔ IsRequestTree tree version attributes
  requests tree version attributes = (λ e. request_is tree (version, attributes) e, λ form. ap request_of form.is)

  attribute_is : (tree : Node) (x : List ℕ × Nodes) → attribute_of tree ≡ Some x → tree ≡ attribute_tree x.0 x.1
  attribute_is tree x e =
      option_and_then_some _ (parts_with 48 tree) x e (λ parts p e.
      option_and_then_some _ (primitive_at 6 parts) x e (λ type t e.
      option_and_then_some _ (constructed_at 49 type.1) x e (λ values v e.
      let end = cond_some (are_none values.1) (type.0, values.0) x e in
      let none = (none_stand values.1).0 end.0 in
      let same = end.1 in
      let first = ap (λ (p : List ℕ × Nodes). p.0) same in
      let second = ap (λ (p : List ℕ × Nodes). p.1) same in
      cc ((parts_stand 48 tree parts).0 p, primitive_is 6 parts type t, constructed_is 49 type.1 values v, none, first, second))))

  pub attributes : (tree : Node) (type : List ℕ) (values : Nodes) → (attribute_of tree ≡ Some (type, values)) ↔ (tree ≡ attribute_tree type values)
  attributes tree type values = (λ e. attribute_is tree (type, values) e, λ is. ap attribute_of is)

  picked : (b : Bool) (tag : ℕ) (content : List ℕ) (others : Nodes) (x : List ℕ × Nodes) → (b ≡ true → tag ≡ 1) → primitive_at 4 (if b then others else also (primitive tag content) others) ≡ Some x
      → HasValue (also (primitive tag content) others) x
  picked true tag content others x one e = record { critical = Some content; is = cc (one refl, primitive_is 4 others x e) }
  picked false tag content others x one e = record { critical = None; is = primitive_is 4 (also (primitive tag content) others) x e }

  value_is : (parts : Nodes) (x : List ℕ × Nodes) → primitive_at 4 (behind_boolean parts) ≡ Some x → HasValue parts x
  value_is no_nodes x e = absurd (cc e)
  value_is (also (primitive tag content) others) x e = picked (tag == 1) tag content others x (λ t. eqb-true tag 1 t) e
  value_is (also (constructed tag inner) others) x e = record { critical = None; is = primitive_is 4 (also (constructed tag inner) others) x e }

  extension_is : (tree : Node) (x : List ℕ × List ℕ) → extension_of tree ≡ Some x → IsExtensionTree tree x.0 x.1
  extension_is tree x e =
      option_and_then_some _ (parts_with 48 tree) x e (λ parts p e.
      option_and_then_some _ (primitive_at 6 parts) x e (λ identifier i e.
      option_and_then_some _ (primitive_at 4 (behind_boolean identifier.1)) x e (λ value v e.
      let end = cond_some (are_none value.1) (identifier.0, value.0) x e in
      let none = (none_stand value.1).0 end.0 in
      let same = end.1 in
      let has = value_is identifier.1 value v in
      let first = ap (λ (p : List ℕ × List ℕ). p.0) same in
      let second = ap (λ (p : List ℕ × List ℕ). p.1) same in
      (has.critical, cc ((parts_stand 48 tree parts).0 p, primitive_is 6 parts identifier i, has.is, none, first, second)))))

  pub extensions : (tree : Node) (identifier value : List ℕ) → (extension_of tree ≡ Some (identifier, value)) ↔ IsExtensionTree tree identifier value
  extensions tree identifier value = (λ e. extension_is tree (identifier, value) e, λ form. ap extension_of form.1 ∙ read_again identifier form.0 value)
