-- A tree in the form has one spelling, which begins no other, and bytes that spell one have no fault.
use Rattle.std.proofs.Common.{◌≡◌, ◌≢◌, ℕ, zero, suc, true, false, List, [], ◌++◌, refl, sym, ap, subst, ◌∙◌, append_assoc, inl, inr}
use Rattle.std.proofs.lemmas.List.{append-nil}
use Rattle.der_text.specs.declared.fault.DerFault.{DerFault}
use Rattle.der_text.specs.Content.{is_constructed}
use Rattle.der_text.specs.Tree.{Node, primitive, constructed, Nodes, no_nodes, also, element, spelling, spellings, IsElement, IsInForm, AreInForm, IsDer}
use Rattle.der_text.specs.Fault.{Front, front_of, HasFault, IsFirstFault}
use Rattle.der_text.proofs.Heads.{ok_is, front_again}

abbrev front : ℕ → List ℕ → List ℕ → Front
front tag content after = record { tag = tag; content = content; after = after }

-- two elements at the front of the same bytes
record Same (tag : ℕ) (content after : List ℕ) (tag' : ℕ) (content' after' : List ℕ) : Type 0 where
  pub tags : tag ≡ tag'
  pub contents : content ≡ content'
  pub afters : after ≡ after'

same_element : (tag : ℕ) (content after : List ℕ) (tag' : ℕ) (content' after' : List ℕ) → IsElement tag content → IsElement tag' content' → element tag content ++ after ≡ element tag' content' ++ after' → Same tag content after tag' content' after'
same_element tag content after tag' content' after' good good' e =
    let both : Front = front tag content after in
    let one = ok_is (front tag content after) (front tag' content' after') (sym (front_again 0 tag content after good) ∙ ap (front_of 1) e ∙ front_again 0 tag' content' after' good') in
    record { tags = ap (λ (f : Front). f.tag) one; contents = ap (λ (f : Front). f.content) one; afters = ap (λ (f : Front). f.after) one }

-- what two spellings at the front of the same bytes are
pub record SameNode (m n : Node) (x y : List ℕ) : Type 0 where
  pub trees : m ≡ n
  pub rests : x ≡ y

not_both : {P : Type 0} → (a b : ℕ) → a ≡ b → is_constructed a ≡ true → is_constructed b ≡ false → P
not_both a b e one other = absurd cc

-- a spelling isn't empty
pub some_spelling : (n : Node) (x : List ℕ) → [] ≡ spelling n ++ x → ⊥
some_spelling (primitive t c) x e = cc
some_spelling (constructed t ps) x e = cc

mutual
  unfolding IsInForm

  pub same_node : (levels : ℕ) (m n : Node) (x y : List ℕ) → IsInForm levels m → IsInForm levels n → spelling m ++ x ≡ spelling n ++ y → SameNode m n x y
  same_node zero (primitive t c) n x y f g e = absurd f
  same_node zero (constructed t ps) n x y f g e = absurd f
  same_node (suc l) (primitive t c) (primitive u d) x y f g e =
      let s = same_element t c x u d y f.1 g.1 e in
      record { trees = cc (s.tags, s.contents); rests = s.afters }
  same_node (suc l) (primitive t c) (constructed u qs) x y f g e =
      let s = same_element t c x u (spellings qs) y f.1 g.1 e in
      not_both u t (sym s.tags) g.0 f.0
  same_node (suc l) (constructed t ps) (primitive u d) x y f g e =
      let s = same_element t (spellings ps) x u d y f.1 g.1 e in
      not_both t u s.tags f.0 g.0
  same_node (suc l) (constructed t ps) (constructed u qs) x y f g e =
      let s = same_element t (spellings ps) x u (spellings qs) y f.1 g.1 e in
      let p = same_nodes l ps qs f.2 g.2 s.contents in
      record { trees = cc (s.tags, p); rests = s.afters }

  pub same_nodes : (levels : ℕ) (ps qs : Nodes) → AreInForm levels ps → AreInForm levels qs → spellings ps ≡ spellings qs → ps ≡ qs
  same_nodes l no_nodes no_nodes f g e = refl
  same_nodes l no_nodes (also q qs) f g e = absurd (some_spelling q (spellings qs) e)
  same_nodes l (also p ps) no_nodes f g e = absurd (some_spelling p (spellings ps) (sym e))
  same_nodes l (also p ps) (also q qs) f g e =
      let s = same_node l p q (spellings ps) (spellings qs) f.0 g.0 e in
      let t = same_nodes l ps qs f.1 g.1 s.rests in
      cc (s.trees, t)

-- ---- bytes that spell a tree have no fault

abbrev Refutes : ℕ → Type 0
Refutes l = (fault : DerFault) (start : ℕ) (n : Node) (x : List ℕ) → IsInForm l n → HasFault l fault start (spelling n ++ x) → ⊥

no_fault_among : (l : ℕ) (fault : DerFault) → Refutes l → (start : ℕ) (ps before : Nodes) (rest : List ℕ) → AreInForm l ps → AreInForm l before → rest ≢ [] → spellings ps ≡ spellings before ++ rest → HasFault l fault start rest → ⊥
unfolding IsInForm
no_fault_among l fault never start no_nodes no_nodes rest f g some e h = some (sym e)
no_fault_among l fault never start no_nodes (also q qs) rest f g some e h = some_spelling q (spellings qs ++ rest) (e ∙ append_assoc (spelling q) (spellings qs) rest)
no_fault_among l fault never start (also p ps) no_nodes rest f g some e h = never fault start p (spellings ps) f.0 (subst (λ (t : List ℕ). HasFault l fault start t) (sym e) h)
no_fault_among l fault never start (also p ps) (also q qs) rest f g some e h =
    let s = same_node l p q (spellings ps) (spellings qs ++ rest) f.0 g.0 (e ∙ append_assoc (spelling q) (spellings qs) rest) in
    no_fault_among l fault never start ps qs rest f.1 g.1 some s.rests h

pub no_fault : (l : ℕ) → Refutes l
unfolding IsInForm HasFault
no_fault zero fault start (primitive t c) x f h = absurd f
no_fault zero fault start (constructed t ps) x f h = absurd f
no_fault (suc l) fault start (primitive t c) x f (inl h) = let g = front_again l t c x f.1 in cc (g, h.0)
no_fault (suc l) fault start (constructed t ps) x f (inl h) = let g = front_again l t (spellings ps) x f.1 in cc (g, h.0)
no_fault (suc l) fault start (primitive t c) x f (inr h) =
    let same = ok_is (front t c x) h.0 (sym (front_again l t c x f.1) ∙ h.1) in
    not_both h.0.tag t (ap (λ (g : Front). g.tag) (sym same)) h.2 f.0
no_fault (suc l) fault start (constructed t ps) x f (inr h) =
    let same = ok_is (front t (spellings ps) x) h.0 (sym (front_again l t (spellings ps) x f.1) ∙ h.1) in
    let content : spellings ps ≡ h.0.content = ap (λ (g : Front). g.content) same in
    no_fault_among l fault (no_fault l) _ ps h.3.before h.3.rest f.2 h.3.form h.3.some (content ∙ h.3.parts) h.3.fault

-- what the laws and the reader's clauses cite
pub one_tree : (bytes : List ℕ) (m n : Node) → IsDer bytes m → IsDer bytes n → m ≡ n
one_tree bytes m n f g = (same_node 32 m n [] [] f.form g.form (ap (λ (t : List ℕ). t ++ []) (sym f.spelled ∙ g.spelled))).trees

pub no_first_fault : (bytes : List ℕ) (n : Node) (fault : DerFault) → IsDer bytes n → IsFirstFault bytes fault → ⊥
no_first_fault bytes n fault f (inl h) = no_fault 32 fault 0 n [] f.form (subst (λ (t : List ℕ). HasFault 32 fault 0 t) (f.spelled ∙ sym (append-nil (spelling n))) h)
no_first_fault bytes n fault f (inr h) =
    let s = same_node 32 n h.tree [] h.rest f.form h.form (append-nil (spelling n) ∙ sym f.spelled ∙ h.parts) in
    h.some (sym s.rests)
