-- The steps of reading: what an element's front and its parts make of it.
use Rattle.std.proofs.Common.{◌≡◌, ◌≢◌, ℕ, zero, suc, ◌+◌, ◌-◌, true, false, List, [], ◌∷◌, ◌++◌, length, map, Ok, Err, refl, sym, ap, subst, ◌∙◌, append_assoc, arith, inl, inr}
use Rattle.std.proofs.lemmas.List.{append-nil, length-append}
use Rattle.der_text.specs.declared.tree.Tree.{Tree}
use Rattle.der_text.specs.declared.fault.DerFault.{DerFault}
use Rattle.der_text.specs.declared.fault.ReadFault.{ReadFault}
use Rattle.der_text.specs.declared.fault.ReadFault.TheVariants as faults
use Rattle.der_text.specs.Content.{is_constructed}
use Rattle.der_text.specs.Tree.{Node, primitive, constructed, Nodes, no_nodes, length_octets, element, head_length, spelling, spellings, IsElement, IsInForm, AreInForm, IsDer}
use Rattle.der_text.specs.View.{nodes_of, node, nodes}
use Rattle.der_text.specs.Fault.{Front, IsFront, front_of, HasFault, IsAmong, IfDer}
use Rattle.der_text.specs.Reading.{Begins, BeginsWith}
use Rattle.der_text.proofs.Trees.{same_node, no_first_fault}

pub fault_front : (levels start : ℕ) (bytes : List ℕ) (fault : DerFault) → front_of levels bytes ≡ Err fault.kind → fault.place ≡ start → HasFault levels fault start bytes
unfolding HasFault
fault_front zero start bytes fault e place = (e, place)
fault_front (suc l) start bytes fault e place = inl (e, place)

head_len : (tag : ℕ) (content after : List ℕ) → length (element tag content ++ after) ≡ head_length content + length content + length after
head_len tag content after = omega (arith, length-append (element tag content) after, length-append (length_octets (length content)) content)

pub fault_parts : (levels start at : ℕ) (bytes : List ℕ) (front : Front) (fault : DerFault) → IsFront levels bytes front → front_of levels bytes ≡ Ok front → is_constructed front.tag ≡ true →
    at ≡ start + (length bytes - length front.after - length front.content) → IsAmong (levels - 1) at front.content (HasFault (levels - 1) fault) → HasFault levels fault start bytes
unfolding HasFault
fault_parts zero start at bytes front fault is e parts place h = absurd (omega (arith, is.some_levels))
fault_parts (suc l) start at bytes front fault is e parts place h =
    let len : length bytes ≡ head_length front.content + length front.content + length front.after = ap length is.spelled ∙ head_len front.tag front.content front.after in
    let same : at ≡ start + head_length front.content = omega arith in
    let less : suc l - 1 ≡ l = omega arith in
    let inner : IsAmong l at front.content (HasFault l fault) = subst (λ (k : ℕ). IsAmong k at front.content (HasFault k fault)) less h in
    inr (front, e, parts, subst (λ (k : ℕ). IsAmong l k front.content (HasFault l fault)) same inner)

pub begins_primitive : (levels : ℕ) (bytes : List ℕ) (front : Front) → IsFront levels bytes front → is_constructed front.tag ≡ false → Begins levels bytes (primitive front.tag front.content) front.after
unfolding IsInForm
begins_primitive zero bytes front is e = absurd (omega (arith, is.some_levels))
begins_primitive (suc l) bytes front is e = record { parts = is.spelled; form = (e, is.good) }

pub begins_constructed : (levels : ℕ) (bytes : List ℕ) (front : Front) (parts : Nodes) → IsFront levels bytes front → is_constructed front.tag ≡ true → BeginsWith (levels - 1) front.content parts [] → Begins levels bytes (constructed front.tag parts) front.after
unfolding IsInForm
begins_constructed zero bytes front parts is e inner = absurd (omega (arith, is.some_levels))
begins_constructed (suc l) bytes front parts is e inner =
    let content : front.content ≡ spellings parts = inner.parts ∙ append-nil (spellings parts) in
    let less : suc l - 1 ≡ l = omega arith in
    record {
      parts = is.spelled ∙ ap (λ (c : List ℕ). element front.tag c ++ front.after) content;
      form = (e, subst (λ (c : List ℕ). IsElement front.tag c) content is.good, subst (λ (k : ℕ). AreInForm k parts) less inner.form);
    }

pub fault_below : (levels start at : ℕ) (bytes : List ℕ) (front : Front) (e : ReadFault) → IsFront levels bytes front → front_of levels bytes ≡ Ok front → is_constructed front.tag ≡ true →
    at ≡ start + (length bytes - length front.after - length front.content) → IfDer e (λ fault. IsAmong (levels - 1) at front.content (HasFault (levels - 1) fault)) → IfDer e (λ fault. HasFault levels fault start bytes)
fault_below levels start at bytes front (faults.Der fault) is e parts place h = fault_parts levels start at bytes front fault is e parts place h
fault_below levels start at bytes front faults.NoMemory is e parts place h = tt

begins_push_list : (l : ℕ) (ns : List Node) (n : Node) (content rest after : List ℕ) → BeginsWith l content (nodes_of ns) rest → Begins l rest n after → BeginsWith l content (nodes_of (ns ++ n ∷ [])) after
unfolding IsInForm
begins_push_list l [] n content rest after so_far next =
    record { parts = so_far.parts ∙ next.parts ∙ ap (λ (t : List ℕ). t ++ after) (sym (append-nil (spelling n))); form = (next.form, tt) }
begins_push_list l (m ∷ ns) n content rest after so_far next =
    let behind : BeginsWith l (spellings (nodes_of ns) ++ rest) (nodes_of ns) rest = record { parts = refl; form = so_far.form.1 } in
    let inner = begins_push_list l ns n (spellings (nodes_of ns) ++ rest) rest after behind next in
    record {
      parts = so_far.parts ∙ append_assoc (spelling m) (spellings (nodes_of ns)) rest ∙ ap (λ (t : List ℕ). spelling m ++ t) inner.parts ∙ sym (append_assoc (spelling m) (spellings (nodes_of (ns ++ n ∷ []))) after);
      form = (so_far.form.0, inner.form);
    }

map-push : (ts : List Tree) (t : Tree) → map node (ts ++ t ∷ []) ≡ map node ts ++ node t ∷ []
map-push [] t = refl
map-push (u ∷ ts) t = ap (λ (ns : List Node). node u ∷ ns) (map-push ts t)

pub begins_push : (l : ℕ) (ts : List Tree) (t : Tree) (content rest after : List ℕ) → BeginsWith l content (nodes ts) rest → Begins l rest (node t) after → BeginsWith l content (nodes (ts ++ t ∷ [])) after
begins_push l ts t content rest after so_far next =
    subst (λ (ns : List Node). BeginsWith l content (nodes_of ns) after) (sym (map-push ts t)) (begins_push_list l (map node ts) (node t) content rest after so_far next)

pub begins_none : (l : ℕ) (content : List ℕ) → BeginsWith l content no_nodes content
unfolding IsInForm
begins_none l content = record { parts = refl; form = tt }

-- ---- all of the bytes

pub none_at_fault : (bytes : List ℕ) (e : ReadFault) → IfDer e (λ fault. HasFault 32 fault 0 bytes) → IfDer e (λ fault. (tree : Node) → ¬ IsDer bytes tree)
none_at_fault bytes (faults.Der fault) h = λ tree is. no_first_fault bytes tree fault is (inl h)
none_at_fault bytes faults.NoMemory h = tt

pub none_before_rest : (bytes : List ℕ) (tree other : Node) (rest : List ℕ) → Begins 32 bytes tree rest → length rest ≢ 0 → IsDer bytes other → ⊥
none_before_rest bytes tree other rest begins some is =
    let s = same_node 32 other tree [] rest is.form begins.form (append-nil (spelling other) ∙ sym is.spelled ∙ begins.parts) in
    some (ap length (sym s.rests))

pub no_other : (bytes : List ℕ) (tree other : Node) (rest : List ℕ) → Begins 32 bytes tree rest → IsDer bytes other → other ≡ tree
no_other bytes tree other rest begins is =
    (same_node 32 other tree [] rest is.form begins.form (append-nil (spelling other) ∙ sym is.spelled ∙ begins.parts)).trees
