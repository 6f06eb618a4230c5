-- What is read of parts stands there, and what stands there is read.
use Rattle.std.proofs.Common.{◌≡◌, ◌==◌, ◌↔◌, ℕ, true, false, List, Option, Some, None, option_map, if◌then◌else◌, refl, ap, ◌∙◌}
use Rattle.std.proofs.lemmas.Bool.{eqb-true, eq-eqb}
use Rattle.der_text.specs.Tree.{Node, primitive, constructed, Nodes, no_nodes, also}
use Rattle.der_text.specs.Parts.{content_with, parts_with, primitive_at, constructed_at, are_none}

-- a value that a test lets through
passed : {A P : Type 0} (b : _) (x y : A) → (if b then Some x else None) ≡ Some y → (b ≡ true → x ≡ y → P) → P
passed true x y e k = k refl (cc e)
passed false x y e k = absurd (cc e)

mapped : {A B P : Type 0} (f : A → B) (o : Option A) (y : B) → option_map f o ≡ Some y → ((x : A) → o ≡ Some x → f x ≡ y → P) → P
mapped f (Some x) y e k = k x refl (cc e)
mapped f None y e k = absurd (cc e)

content_is : (tag : ℕ) (tree : Node) (content : List ℕ) → content_with tag tree ≡ Some content → tree ≡ primitive tag content
content_is tag (primitive found other) content e = passed (found == tag) other content e (λ t same. cc (eqb-true found tag t, same))
content_is tag (constructed found parts) content e = absurd (cc e)

parts_are : (tag : ℕ) (tree : Node) (parts : Nodes) → parts_with tag tree ≡ Some parts → tree ≡ constructed tag parts
parts_are tag (primitive found content) parts e = absurd (cc e)
parts_are tag (constructed found other) parts e = passed (found == tag) other parts e (λ t same. cc (eqb-true found tag t, same))

content_again : (tag : ℕ) (content : List ℕ) → content_with tag (primitive tag content) ≡ Some content
content_again tag content = rw (eq-eqb tag tag refl) refl

parts_again : (tag : ℕ) (parts : Nodes) → parts_with tag (constructed tag parts) ≡ Some parts
parts_again tag parts = rw (eq-eqb tag tag refl) refl

pub contents : (tag : ℕ) (tree : Node) (content : List ℕ) → (content_with tag tree ≡ Some content) ↔ (tree ≡ primitive tag content)
contents tag tree content = (content_is tag tree content, λ e. ap (content_with tag) e ∙ content_again tag content)

pub inner_parts : (tag : ℕ) (tree : Node) (parts : Nodes) → (parts_with tag tree ≡ Some parts) ↔ (tree ≡ constructed tag parts)
inner_parts tag tree parts = (parts_are tag tree parts, λ e. ap (parts_with tag) e ∙ parts_again tag parts)

primitive_is : (tag : ℕ) (nodes : Nodes) (x : List ℕ × Nodes) → primitive_at tag nodes ≡ Some x → nodes ≡ also (primitive tag x.0) x.1
primitive_is tag no_nodes x e = absurd (cc e)
primitive_is tag (also first others) x e =
    mapped (λ content. (content, others)) (content_with tag first) x e (λ content is same. cc (content_is tag first content is, ap (λ (p : List ℕ × Nodes). p.0) same, ap (λ (p : List ℕ × Nodes). p.1) same))

constructed_is : (tag : ℕ) (nodes : Nodes) (x : Nodes × Nodes) → constructed_at tag nodes ≡ Some x → nodes ≡ also (constructed tag x.0) x.1
constructed_is tag no_nodes x e = absurd (cc e)
constructed_is tag (also first others) x e =
    mapped (λ parts. (parts, others)) (parts_with tag first) x e (λ parts is same. cc (parts_are tag first parts is, ap (λ (p : Nodes × Nodes). p.0) same, ap (λ (p : Nodes × Nodes). p.1) same))

pub primitives : (tag : ℕ) (nodes : Nodes) (content : List ℕ) (others : Nodes) → (primitive_at tag nodes ≡ Some (content, others)) ↔ (nodes ≡ also (primitive tag content) others)
primitives tag nodes content others = (
  primitive_is tag nodes (content, others),
  λ e. ap (primitive_at tag) e ∙ ap (option_map (λ found. (found, others))) (content_again tag content),
)

pub constructs : (tag : ℕ) (nodes parts others : Nodes) → (constructed_at tag nodes ≡ Some (parts, others)) ↔ (nodes ≡ also (constructed tag parts) others)
constructs tag nodes parts others = (
  constructed_is tag nodes (parts, others),
  λ e. ap (constructed_at tag) e ∙ ap (option_map (λ found. (found, others))) (parts_again tag parts),
)

end_is : (nodes : Nodes) → are_none nodes ≡ true → nodes ≡ no_nodes
end_is no_nodes e = refl
end_is (also first others) e = absurd (cc e)

pub ends : (nodes : Nodes) → (are_none nodes ≡ true) ↔ (nodes ≡ no_nodes)
ends nodes = (end_is nodes, λ e. ap are_none e)
