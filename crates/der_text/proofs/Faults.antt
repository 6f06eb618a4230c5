-- Bytes have one first fault at most.
use Rattle.std.proofs.Common.{◌≡◌, ◌≢◌, ℕ, zero, suc, ◌+◌, List, [], ◌++◌, length, Result, Ok, Err, refl, sym, ap, subst, ◌∙◌, append_assoc, inl, inr}
use Rattle.der_text.specs.declared.fault.DerKind.{DerKind}
use Rattle.der_text.specs.declared.fault.DerFault.{DerFault}
use Rattle.der_text.specs.Tree.{Node, Nodes, no_nodes, also, spelling, spellings, head_length, IsInForm, AreInForm}
use Rattle.der_text.specs.Fault.{Front, front_of, HasFault, IsAmong, IsTrailing, IsFirstFault}
use Rattle.der_text.proofs.Heads.{ok_is}
use Rattle.der_text.proofs.Trees.{same_node, no_fault}

-- two faults of the same bytes
record SameFault (fault other : DerFault) : Type 0 where
  pub kinds : fault.kind ≡ other.kind
  pub places : fault.place ≡ other.place

abbrev failed : DerKind → Result Front DerKind
failed kind = Err kind

err_is : (x y : DerKind) → failed x ≡ failed y → x ≡ y
err_is x y e = cc

err_ok : {P : Type 0} (r : Result Front DerKind) (kind : DerKind) (front : Front) → r ≡ Err kind → r ≡ Ok front → P
err_ok r kind front e f = cc

-- where the first part with a fault begins is settled
same_before : (l : ℕ) (f g : DerFault) (start start' : ℕ) (ps qs : Nodes) (rest rest' : List ℕ) → AreInForm l ps → AreInForm l qs → rest ≢ [] → rest' ≢ [] → HasFault l f start rest → HasFault l g start' rest' → spellings ps ++ rest ≡ spellings qs ++ rest' → (ps ≡ qs) × (rest ≡ rest')
unfolding IsInForm
same_before l f g start start' no_nodes no_nodes rest rest' a b some some' h k e = (refl, e)
same_before l f g start start' no_nodes (also q qs) rest rest' a b some some' h k e =
    absurd (no_fault l f start q (spellings qs ++ rest') b.0 (subst (λ (t : List ℕ). HasFault l f start t) (e ∙ append_assoc (spelling q) (spellings qs) rest') h))
same_before l f g start start' (also p ps) no_nodes rest rest' a b some some' h k e =
    absurd (no_fault l g start' p (spellings ps ++ rest) a.0 (subst (λ (t : List ℕ). HasFault l g start' t) (sym e ∙ append_assoc (spelling p) (spellings ps) rest) k))
same_before l f g start start' (also p ps) (also q qs) rest rest' a b some some' h k e =
    let s = same_node l p q (spellings ps ++ rest) (spellings qs ++ rest') a.0 b.0 (sym (append_assoc (spelling p) (spellings ps) rest) ∙ e ∙ append_assoc (spelling q) (spellings qs) rest') in
    let t = same_before l f g start start' ps qs rest rest' a.1 b.1 some some' h k s.rests in
    let trees : p ≡ q = s.trees in
    let others : ps ≡ qs = t.0 in
    (cc, t.1)

abbrev Agrees : ℕ → Type 0
Agrees l = (f g : DerFault) (start : ℕ) (bytes : List ℕ) → HasFault l f start bytes → HasFault l g start bytes → SameFault f g

same_among : (l : ℕ) → Agrees l → (f g : DerFault) (start : ℕ) (content : List ℕ) → IsAmong l start content (HasFault l f) → IsAmong l start content (HasFault l g) → SameFault f g
same_among l agrees f g start content h k =
    let s = same_before l f g _ _ h.before k.before h.rest k.rest h.form k.form h.some k.some h.fault k.fault (sym h.parts ∙ k.parts) in
    let place : start + length (spellings k.before) ≡ start + length (spellings h.before) = ap (λ (ns : Nodes). start + length (spellings ns)) (sym s.0) in
    let there : HasFault l g (start + length (spellings h.before)) k.rest = subst (λ (p : ℕ). HasFault l g p k.rest) place k.fault in
    let here : HasFault l g (start + length (spellings h.before)) h.rest = subst (λ (t : List ℕ). HasFault l g (start + length (spellings h.before)) t) (sym s.1) there in
    agrees f g (start + length (spellings h.before)) h.rest h.fault here

same_fault : (l : ℕ) → Agrees l
unfolding HasFault
same_fault zero f g start bytes h k = record { kinds = err_is f.kind g.kind (sym h.0 ∙ k.0); places = h.1 ∙ sym k.1 }
same_fault (suc l) f g start bytes (inl h) (inl k) = record { kinds = err_is f.kind g.kind (sym h.0 ∙ k.0); places = h.1 ∙ sym k.1 }
same_fault (suc l) f g start bytes (inl h) (inr k) = err_ok (front_of (suc l) bytes) f.kind k.0 h.0 k.1
same_fault (suc l) f g start bytes (inr h) (inl k) = err_ok (front_of (suc l) bytes) g.kind h.0 k.0 h.1
same_fault (suc l) f g start bytes (inr h) (inr k) =
    let same : h.0 ≡ k.0 = ok_is h.0 k.0 (sym h.1 ∙ k.1) in
    let moved : IsAmong l (start + head_length h.0.content) h.0.content (HasFault l g) = subst (λ (front : Front). IsAmong l (start + head_length front.content) front.content (HasFault l g)) (sym same) k.3 in
    same_among l (same_fault l) f g (start + head_length h.0.content) h.0.content h.3 moved

abbrev fault_of : DerKind → ℕ → DerFault
fault_of kind place = record { kind = kind; place = place }

one_of : (f g : DerFault) → SameFault f g → f ≡ g
one_of f g same = ap (λ (k : DerKind). fault_of k f.place) same.kinds ∙ ap (λ (p : ℕ). fault_of g.kind p) same.places

trailing_is_no_other : {P : Type 0} (bytes : List ℕ) (f g : DerFault) → HasFault 32 f 0 bytes → IsTrailing g bytes → P
trailing_is_no_other bytes f g h k = absurd (no_fault 32 f 0 k.tree k.rest k.form (subst (λ (t : List ℕ). HasFault 32 f 0 t) k.parts h))

pub one_first : (bytes : List ℕ) (f g : DerFault) → IsFirstFault bytes f → IsFirstFault bytes g → f ≡ g
one_first bytes f g (inl h) (inl k) = one_of f g (same_fault 32 f g 0 bytes h k)
one_first bytes f g (inl h) (inr k) = trailing_is_no_other bytes f g h k
one_first bytes f g (inr h) (inl k) = trailing_is_no_other bytes g f k h
one_first bytes f g (inr h) (inr k) =
    let s = same_node 32 h.tree k.tree h.rest k.rest h.form k.form (sym h.parts ∙ k.parts) in
    one_of f g (record { kinds = h.kind ∙ sym k.kind; places = h.place ∙ ap (λ (n : Node). length (spelling n)) s.trees ∙ sym k.place })
