-- Going to a part: cutting an element off, and counting elements down.
use Rattle.std.proofs.Common.{◌≡◌, ◌≢◌, ℕ, zero, suc, ◌+◌, ◌-◌, ◌<◌, true, false, List, [], ◌∷◌, ◌++◌, length, get_or, take, drop, drop-cons, add-one, Option, Some, None, option_map, Ok, Err, refl, sym, ap, ◌∙◌, arith}
use Rattle.std.specs.Prelude.{option_and_then, IfSome}
use Rattle.std.proofs.lemmas.List.{append-nil, length-append, take_at, drop_at}
use Rattle.der_text.specs.declared.fault.DerKind.{DerKind}
use Rattle.der_text.specs.Content.{is_constructed}
use Rattle.der_text.specs.Tree.{Node, primitive, constructed, Nodes, no_nodes, also, content_of, spelling, spellings, IsInForm, AreInForm, IsDer, node_at, parts_of, part_of}
use Rattle.der_text.specs.Fault.{Front, front_of}
use Rattle.der_text.specs.Part.{IsSplit, IsAt, IsPart, IsNamedPart}
use Rattle.der_text.proofs.Heads.{ok_is, front_again}

abbrev tag_of : Node → ℕ
tag_of (primitive tag content) = tag
tag_of (constructed tag parts) = tag

abbrev front_with : Node → List ℕ → Front
front_with tree rest = record { tag = tag_of tree; content = content_of tree; after = rest }

front_of_tree : (k levels : ℕ) (tree : Node) (rest : List ℕ) → IsInForm levels tree → front_of (suc k) (spelling tree ++ rest) ≡ Ok (front_with tree rest)
unfolding IsInForm
front_of_tree k zero (primitive t c) rest f = absurd f
front_of_tree k zero (constructed t ps) rest f = absurd f
front_of_tree k (suc l) (primitive t c) rest f = front_again k t c rest f.1
front_of_tree k (suc l) (constructed t ps) rest f = front_again k t (spellings ps) rest f.1

-- what was read at the front is the tree that stands there
same_front : (k levels : ℕ) (bytes : List ℕ) (tree : Node) (rest : List ℕ) (front : Front) → IsInForm levels tree → bytes ≡ spelling tree ++ rest → front_of (suc k) bytes ≡ Ok front → front_with tree rest ≡ front
same_front k levels bytes tree rest front f e found = ok_is (front_with tree rest) front (sym (front_of_tree k levels tree rest f) ∙ ap (front_of (suc k)) (sym e) ∙ found)

pub split_found : (k levels : ℕ) (bytes : List ℕ) (front : Front) (first after : List ℕ) (tree : Node) (rest : List ℕ) → front_of (suc k) bytes ≡ Ok front → first ≡ take (length bytes - length front.after) bytes → after ≡ drop (length bytes - length front.after) bytes →
    IsInForm levels tree → bytes ≡ spelling tree ++ rest → (first ≡ spelling tree) × (after ≡ rest)
split_found k levels bytes front first after tree rest found firsts afters f e =
    let same : rest ≡ front.after = ap (λ (g : Front). g.after) (same_front k levels bytes tree rest front f e found) in
    let len : length (spelling tree) ≡ length bytes - length front.after = omega (arith, length-append (spelling tree) rest, ap length e, ap length same) in
    (firsts ∙ ap (take (length bytes - length front.after)) e ∙ take_at (spelling tree) rest _ len, afters ∙ ap (drop (length bytes - length front.after)) e ∙ drop_at (spelling tree) rest _ len)

pub split_never_fails : {P : Type 0} → (k levels : ℕ) (bytes : List ℕ) (kind : DerKind) (tree : Node) (rest : List ℕ) → front_of (suc k) bytes ≡ Err kind → IsInForm levels tree → bytes ≡ spelling tree ++ rest → P
split_never_fails k levels bytes kind tree rest failed f e =
    let found = front_of_tree k levels tree rest f in
    let same : front_of (suc k) bytes ≡ Ok (front_with tree rest) = ap (front_of (suc k)) e ∙ found in
    cc (same, failed)

pair_parts : (first after x y : List ℕ) → ◌≡◌ {A = Option (List ℕ × List ℕ)} (Some (first, after)) (Some (x, y)) → (first ≡ x) × (after ≡ y)
pair_parts first after x y e =
    let both : (first, after) ≡ (x, y) = cc in
    (ap (λ (p : List ℕ × List ℕ). p.0) both, ap (λ (p : List ℕ × List ℕ). p.1) both)

-- ---- counting down

-- the elements to come, of which the one so many places on is meant
pub record IsAhead (levels : ℕ) (trees : Nodes) (i : ℕ) (rest : List ℕ) (left : ℕ) : Type 0 where
  pub others : Nodes
  pub form : AreInForm levels others
  pub spelled : rest ≡ spellings others
  pub same : node_at others left ≡ node_at trees i

abbrev pub Counts : List ℕ → ℕ → List ℕ → ℕ → Type 0
Counts bytes i rest left = (levels : ℕ) (trees : Nodes) → AreInForm levels trees → bytes ≡ spellings trees → IsAhead levels trees i rest left

pub counts_from : (bytes : List ℕ) (i : ℕ) → Counts bytes i bytes i
counts_from bytes i = λ levels trees form spelled. record { others = trees; form = form; spelled = spelled; same = refl }

next_ahead : (levels : ℕ) (trees others : Nodes) (i : ℕ) (rest first after : List ℕ) (left : ℕ) → IsSplit rest (Some (first, after)) → length after < length rest → left ≢ 0 → AreInForm levels others → rest ≡ spellings others → node_at others left ≡ node_at trees i → IsAhead levels trees i after (left - 1)
unfolding IsInForm
next_ahead levels trees no_nodes i rest first after left split some more form spelled same = absurd (omega (arith, ap length spelled, some))
next_ahead levels trees (also m ms) i rest first after zero split some more form spelled same = absurd (more refl)
next_ahead levels trees (also m ms) i rest first after (suc left) split some more form spelled same =
    let cut = pair_parts first after (spelling m) (spellings ms) (split levels m (spellings ms) form.0 spelled) in
    let less : suc left - 1 ≡ left = omega arith in
    record { others = ms; form = form.1; spelled = cut.1; same = ap (node_at ms) less ∙ same }

pub counts_on : (bytes : List ℕ) (i : ℕ) (rest first after : List ℕ) (left : ℕ) → Counts bytes i rest left → IsSplit rest (Some (first, after)) → length after < length rest → left ≢ 0 → Counts bytes i after (left - 1)
counts_on bytes i rest first after left so_far split some more = λ levels trees form spelled.
    let ahead = so_far levels trees form spelled in
    next_ahead levels trees ahead.others i rest first after left split some more ahead.form ahead.spelled ahead.same

at_first : (levels : ℕ) (others : Nodes) (rest first after : List ℕ) → IsSplit rest (Some (first, after)) → length after < length rest → AreInForm levels others → rest ≡ spellings others → Some first ≡ option_map spelling (node_at others 0)
unfolding IsInForm
at_first levels no_nodes rest first after split some form spelled = absurd (omega (arith, ap length spelled, some))
at_first levels (also m ms) rest first after split some form spelled =
    ap (λ (t : List ℕ). Some t) (pair_parts first after (spelling m) (spellings ms) (split levels m (spellings ms) form.0 spelled)).0

pub counts_to_first : (bytes : List ℕ) (i : ℕ) (rest first after : List ℕ) (left : ℕ) → Counts bytes i rest left → IsSplit rest (Some (first, after)) → length after < length rest → left ≡ 0 → IsAt bytes i (Some first)
counts_to_first bytes i rest first after left so_far split some here = λ levels trees form spelled.
    let ahead = so_far levels trees form spelled in
    at_first levels ahead.others rest first after split some ahead.form ahead.spelled ∙ ap (λ (k : ℕ). option_map spelling (node_at ahead.others k)) (sym here) ∙ ap (option_map spelling) ahead.same

past_last : (levels : ℕ) (others : Nodes) (rest : List ℕ) (left : ℕ) → IsSplit rest None → AreInForm levels others → rest ≡ spellings others → node_at others left ≡ None
unfolding IsInForm
past_last levels no_nodes rest left split form spelled = refl
past_last levels (also m ms) rest left split form spelled = let cut = split levels m (spellings ms) form.0 spelled in cc

pub counts_past_last : (bytes : List ℕ) (i : ℕ) (rest : List ℕ) (left : ℕ) → Counts bytes i rest left → IsSplit rest None → IsAt bytes i None
counts_past_last bytes i rest left so_far split = λ levels trees form spelled.
    let ahead = so_far levels trees form spelled in
    ap (option_map spelling) (sym (past_last levels ahead.others rest left split ahead.form ahead.spelled) ∙ ahead.same)

-- ---- the parts of an element

-- the content of a constructed tree is its parts
inside : (k levels i : ℕ) (bytes : List ℕ) (front : Front) (found : Option (List ℕ)) (tree : Node) → front_of (suc k) bytes ≡ Ok front → is_constructed front.tag ≡ true → IsAt front.content i found → IsInForm levels tree → bytes ≡ spelling tree → front_with tree [] ≡ front → found ≡ option_map spelling (node_at (parts_of tree) i)
unfolding IsInForm
inside k zero i bytes front found (primitive t c) read parts at f e same = absurd f
inside k zero i bytes front found (constructed t ps) read parts at f e same = absurd f
inside k (suc l) i bytes front found (primitive t c) read parts at f e same =
    let tags : t ≡ front.tag = ap (λ (g : Front). g.tag) same in
    let one : is_constructed t ≡ true = ap is_constructed tags ∙ parts in
    let other : is_constructed t ≡ false = f.0 in
    cc (one, other)
inside k (suc l) i bytes front found (constructed t ps) read parts at f e same =
    let contents : spellings ps ≡ front.content = ap (λ (g : Front). g.content) same in
    at l ps f.2 (sym contents)

pub part_inside : (k i : ℕ) (bytes : List ℕ) (front : Front) (found : Option (List ℕ)) → front_of (suc k) bytes ≡ Ok front → is_constructed front.tag ≡ true → IsAt front.content i found → IsPart bytes i found
part_inside k i bytes front found read parts at = λ levels tree f e.
    inside k levels i bytes front found tree read parts at f e (same_front k levels bytes tree [] front f (e ∙ sym (append-nil (spelling tree))) read)

no_parts : (k levels i : ℕ) (front : Front) (tree : Node) → is_constructed front.tag ≡ false → IsInForm levels tree → front_with tree [] ≡ front → None ≡ option_map spelling (node_at (parts_of tree) i)
unfolding IsInForm
no_parts k levels i front (primitive t c) none f same = refl
no_parts k zero i front (constructed t ps) none f same = absurd f
no_parts k (suc l) i front (constructed t ps) none f same =
    let tags : t ≡ front.tag = ap (λ (g : Front). g.tag) same in
    let one : is_constructed t ≡ false = ap is_constructed tags ∙ none in
    let other : is_constructed t ≡ true = f.0 in
    cc (one, other)

pub no_part_inside : (k i : ℕ) (bytes : List ℕ) (front : Front) → front_of (suc k) bytes ≡ Ok front → is_constructed front.tag ≡ false → IsPart bytes i None
no_part_inside k i bytes front read none = λ levels tree f e.
    no_parts k levels i front tree none f (same_front k levels bytes tree [] front f (e ∙ sym (append-nil (spelling tree))) read)

pub no_part_unread : (k i : ℕ) (bytes : List ℕ) (kind : DerKind) → front_of (suc k) bytes ≡ Err kind → IsPart bytes i None
no_part_unread k i bytes kind failed = λ levels tree f e. split_never_fails k levels bytes kind tree [] failed f (e ∙ sym (append-nil (spelling tree)))

-- ---- along a path

-- the tree at hand, from which the rest of the path leads on
pub record IsOnPath (tree : Node) (path : List ℕ) (part : List ℕ) (left : List ℕ) : Type 0 where
  pub levels : ℕ
  pub here : Node
  pub form : IsInForm levels here
  pub spelled : part ≡ spelling here
  pub same : part_of left here ≡ part_of path tree

abbrev pub Leads : List ℕ → List ℕ → List ℕ → List ℕ → Type 0
Leads bytes path part left = (tree : Node) → IsDer bytes tree → IsOnPath tree path part left

pub leads_from : (bytes path : List ℕ) → Leads bytes path bytes path
leads_from bytes path = λ tree is. record { levels = 32; here = tree; form = is.form; spelled = is.spelled; same = refl }

node_form : (levels i : ℕ) (trees : Nodes) → AreInForm levels trees → IfSome (node_at trees i) (λ tree. IsInForm levels tree)
unfolding IsInForm
node_form levels i no_nodes f = tt
node_form levels zero (also m ms) f = f.0
node_form levels (suc i) (also m ms) f = node_form levels i ms f.1

part_form : (levels i : ℕ) (tree : Node) → IsInForm levels tree → IfSome (node_at (parts_of tree) i) (λ part. IsInForm (levels - 1) part)
unfolding IsInForm
part_form levels i (primitive t c) f = tt
part_form zero i (constructed t ps) f = absurd f
part_form (suc l) i (constructed t ps) f =
    let less : suc l - 1 ≡ l = omega arith in
    rw less (node_form l i ps f.2)

step_to : (levels : ℕ) (tree : Node) (path part left : List ℕ) (found : Option Node) → Some part ≡ option_map spelling found → IfSome found (λ tree. IsInForm levels tree) → option_and_then (part_of left) found ≡ part_of path tree → IsOnPath tree path part left
step_to levels tree path part left None e f same = absurd cc
step_to levels tree path part left (Some m) e f same = record { levels = levels; here = m; form = f; spelled = cc; same = same }

pub leads_on : (bytes path part next left : List ℕ) (i : ℕ) → Leads bytes path part (i ∷ left) → IsPart part i (Some next) → Leads bytes path next left
leads_on bytes path part next left i so_far inner = λ tree is.
    let on = so_far tree is in
    step_to (on.levels - 1) tree path next left (node_at (parts_of on.here) i) (inner on.levels on.here on.form on.spelled) (part_form on.levels i on.here on.form) on.same

nothing : (left : List ℕ) (found : Option Node) (whole : Option Node) → None ≡ option_map spelling found → option_and_then (part_of left) found ≡ whole → whole ≡ None
nothing left None whole e same = sym same
nothing left (Some m) whole e same = absurd cc

pub leads_nowhere : (bytes path part left : List ℕ) (i : ℕ) → Leads bytes path part (i ∷ left) → IsPart part i None → IsNamedPart bytes path None
leads_nowhere bytes path part left i so_far inner = λ tree is.
    let on = so_far tree is in
    ap (option_map spelling) (sym (nothing left (node_at (parts_of on.here) i) (part_of path tree) (inner on.levels on.here on.form on.spelled) on.same))

pub leads_to : (bytes path part : List ℕ) → Leads bytes path part [] → IsNamedPart bytes path (Some part)
leads_to bytes path part so_far = λ tree is.
    let on = so_far tree is in
    ap (λ (t : List ℕ). Some t) on.spelled ∙ ap (option_map spelling) on.same

pub drop_step : (xs : List ℕ) (i : ℕ) → i < length xs → drop i xs ≡ get_or xs i 0 ∷ drop (i + 1) xs
drop_step xs i lt = rw (add-one, drop-cons xs i 0) refl
