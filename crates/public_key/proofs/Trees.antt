-- The trees of keys, and what is read of them.
use Rattle.std.proofs.Common.{◌≡◌, ℕ, Bool, true, List, Some, sym, ap, ◌∙◌, subst, ◌↔◌, IsTrue, ◌&&◌}
use Rattle.std.proofs.lemmas.Bool.{and_parts}
use Rattle.std.proofs.lemmas.Option.{option_and_then_some, cond_some}
use Rattle.der_text.specs.Tree.{Node, primitive, constructed, Nodes, no_nodes, also, IsDer}
use Rattle.der_text.specs.Parts.{parts_with, primitive_at, are_none}
use Rattle.public_key.specs.Key.{numbers_of, rsa_tree, IsRsa, is_modulus, is_exponent}

module _ (parts_stand : (tag : ℕ) (tree : Node) (parts : Nodes)
    → (parts_with tag tree ≡ Some parts) ↔ (tree ≡ constructed tag parts))
    (primitive_stands : (tag : ℕ) (nodes : Nodes) (content : List ℕ) (others : Nodes)
    → (primitive_at tag nodes ≡ Some (content, others)) ↔ (nodes ≡ also (primitive tag content) others))
    (none_stand : (nodes : Nodes) → (are_none nodes ≡ true) ↔ (nodes ≡ no_nodes)) where
  numbers_are : (tree : Node) (x : List ℕ × List ℕ) → numbers_of tree ≡ Some x → tree ≡ rsa_tree x.0 x.1
  numbers_are tree x e =
      option_and_then_some _ (parts_with 48 tree) x e (λ parts p e.
      option_and_then_some _ (primitive_at 2 parts) x e (λ modulus m e.
      option_and_then_some _ (primitive_at 2 modulus.1) x e (λ exponent n e.
      let none = cond_some (are_none exponent.1) (modulus.0, exponent.0) x e in
      let first = ap (λ (p : List ℕ × List ℕ). p.0) none.1 in
      let second = ap (λ (p : List ℕ × List ℕ). p.1) none.1 in
      cc ((parts_stand 48 tree parts).0 p, (primitive_stands 2 parts modulus.0 modulus.1).0 m, (primitive_stands 2 modulus.1 exponent.0 exponent.1).0 n, (none_stand exponent.1).0 none.0, first, second))))

  -- where the numbers of the only tree are known, so is whether the bits are an RSA key
  pub rsa_by_numbers : (bits : List ℕ) (tree : Node) (x : List ℕ × List ℕ) (good : Bool) → IsDer bits tree → ((other : Node) → IsDer bits other → other ≡ tree)
      → numbers_of tree ≡ Some x → good ≡ (is_modulus x.0 && is_exponent x.1) → IsTrue good ↔ IsRsa bits
  rsa_by_numbers bits tree x good der only e is = (
    λ t. let both = and_parts _ _ (sym is ∙ t) in
        record {
          modulus = x.0;
          exponent = x.1;
          spelled = subst (λ (n : Node). IsDer bits n) (numbers_are tree x e) der;
          good_modulus = both.0;
          good_exponent = both.1;
        },
    λ rsa.
        let read : Some (rsa.modulus, rsa.exponent) ≡ Some x = ap numbers_of (only _ rsa.spelled) ∙ e in
        let same : (rsa.modulus, rsa.exponent) ≡ x = cc read in
        let both : (is_modulus rsa.modulus && is_exponent rsa.exponent) ≡ (is_modulus x.0 && is_exponent x.1) = ap (λ (p : List ℕ × List ℕ). is_modulus p.0 && is_exponent p.1) same in
        is ∙ sym both ∙ rw rsa.good_modulus rsa.good_exponent,
  )
