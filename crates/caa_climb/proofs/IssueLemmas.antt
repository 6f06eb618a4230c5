-- Reading an issue value is its grammar: what is read is in the grammar, and what is in it is read.
use Rattle.std.proofs.Common.{◌≡◌, ◌∙◌, refl, sym, ap, subst, ℕ, Bool, true, false, cond, ◌||◌, ◌⊎◌, inl, inr, List, [], ◌∷◌, ◌++◌}
use Rattle.std.specs.Prelude.{Option, Some, None, IfSome, IfNone}
use Rattle.std.specs.List.{list_all}
use Rattle.std.specs.Option.{option_map}
use Rattle.std.proofs.lemmas.List.{append_assoc, append-nil}
use Rattle.caa_climb.specs.IssueValue.{AllBytes, is_blank, IsLabel, IsDomain, Parameter, IsParameter, print_parameter, Parameters, one, also, AreParameters, print_parameters, IsFront, IsBack, IsIssueValue}
use Rattle.caa_climb.specs.Reading.{is_nil, cut_at, without_lead, trimmed, is_domain, is_piece, are_pieces, ended, parameters_in, read_cut, read_sides, read_value}
use Rattle.caa_climb.proofs.Bytes.{truth, All-append, Lacks, Lacks-from, IsSolid, IsSolid-from, IsCut, cut_is, cut_at-found, cut_at-none, without_lead-blanks, without_lead-solid, lead_is, trimmed_is, trimmed-between}
use Rattle.caa_climb.proofs.Labels.{is_label_byte, label_bytes}
use Rattle.caa_climb.proofs.Domains.{parts, joined, domain_is, domain_passes, is_domain_byte, domain_bytes}
use Rattle.caa_climb.proofs.ParameterLemmas.{Part, part_is, part_passes, ended_is}

-- ---- the parameters

-- bytes that begin with one that is no blank
record Begins (bytes : List ℕ) : Type 0 where
  first : ℕ
  rest : List ℕ
  solid : is_blank first ≡ false
  begun : bytes ≡ first ∷ rest

more : (bytes ys : List ℕ) → Begins bytes → Begins (bytes ++ ys)
more bytes ys h = record { first = h.first; rest = h.rest ++ ys; solid = h.solid; begun = ap (λ x. x ++ ys) h.begun }

label_begins : (bytes : List ℕ) → IsLabel bytes → Begins bytes
label_begins bytes h =
    let P : List ℕ → Type 0 = λ xs. IsSolid xs in
    let solid = subst P h.printed (IsSolid-from is_label_byte refl refl bytes (label_bytes bytes h)) in
    record { first = h.first; rest = _; solid = solid.0; begun = h.printed }

parameter_begins : (p : Parameter) → IsParameter p → Begins (print_parameter p)
parameter_begins p is =
    more (p.tag ++ p.before ++ 61 ∷ p.after) p.value (more (p.tag ++ p.before) (61 ∷ p.after) (more p.tag p.before (label_begins p.tag is.tag)))

tree_begins : (tree : Parameters) → AreParameters tree → Begins (print_parameters tree)
tree_begins (one p) is = parameter_begins p is
tree_begins (also p before after others) is =
    more (print_parameter p ++ before ++ 59 ∷ after) (print_parameters others)
    (more (print_parameter p ++ before) (59 ∷ after) (more (print_parameter p) before (parameter_begins p is.0)))

lead_of_begun : (bytes : List ℕ) → Begins bytes → without_lead bytes ≡ bytes
lead_of_begun bytes h = ap without_lead h.begun ∙ without_lead-solid h.first h.rest h.solid ∙ sym h.begun

lead_of_tree : (lead : List ℕ) (tree : Parameters) (trail : List ℕ) → AllBytes is_blank lead → AreParameters tree →
    without_lead (lead ++ print_parameters tree ++ trail) ≡ print_parameters tree ++ trail
lead_of_tree lead tree trail h is =
    ap without_lead (append_assoc lead (print_parameters tree) trail)
    ∙ without_lead-blanks lead (print_parameters tree ++ trail) h
    ∙ lead_of_begun (print_parameters tree ++ trail) (more (print_parameters tree) trail (tree_begins tree is))

begun_is_some : (bytes : List ℕ) → Begins bytes → is_nil bytes ≡ false
begun_is_some bytes h = ap is_nil h.begun

tree_is_read : (tree : Parameters) (trail : List ℕ) → AreParameters tree → AllBytes is_blank trail → ended (print_parameters tree ++ trail) ≡ print_parameters tree →
    parameters_in (print_parameters tree ++ trail) ≡ Some (print_parameters tree)
tree_is_read tree trail is k e =
    let some = begun_is_some (print_parameters tree ++ trail) (more (print_parameters tree) trail (tree_begins tree is)) in
    let passes = part_passes [] tree trail tt is k in
    rw (some, passes) (ap Some e)

blank_back : (back : List ℕ) → AllBytes is_blank back → without_lead back ≡ []
blank_back back h = sym (ap without_lead (append-nil back)) ∙ without_lead-blanks back [] h

-- what stands behind the semicolon is read
back_is_read : (back parameters : List ℕ) → IsBack back parameters → parameters_in (without_lead back) ≡ Some parameters
back_is_read back parameters (inl h) = ap parameters_in (blank_back back h.0) ∙ ap Some (sym h.1)
back_is_read back parameters (inr h) =
    ap (λ x. parameters_in (without_lead x)) (h.printed ∙ ap (λ x. h.lead ++ x ++ h.trail) h.parameters_are)
    ∙ ap parameters_in (lead_of_tree h.lead h.tree h.trail h.lead_is h.tree_is)
    ∙ tree_is_read h.tree h.trail h.tree_is h.trail_is (ended_is h.tree h.trail h.tree_is h.trail_is h.greedy)
    ∙ ap Some (sym h.parameters_are)

lead_twice : (bytes : List ℕ) → without_lead (without_lead bytes) ≡ without_lead bytes
lead_twice [] = refl
lead_twice (b ∷ bytes) =
    elim (truth (is_blank b)) [
      | inl blank ↦ rw blank (lead_twice bytes)
      | inr solid ↦ rw solid (without_lead-solid b bytes solid)
    ]

some_is : {X : Type 0} (x y : X) → Some x ≡ Some y → x ≡ y
some_is x y e = cc (e)

part_of : (text : List ℕ) → are_pieces text ≡ true → Part text
part_of text h =
    let all = parts 59 text in
    let P : List ℕ → Type 0 = λ x. Part x in
    subst P (sym (joined 59 text all.0 all.1 all.2)) (part_is all.0 all.1 (sym (ap (list_all is_piece) all.2) ∙ h))

-- what was read behind the semicolon, where the text without the blanks before it is this
back_of : (back lead text parameters : List ℕ) → AllBytes is_blank lead → back ≡ lead ++ text → without_lead text ≡ text →
    parameters_in text ≡ Some parameters → IsBack back parameters
back_of back lead [] parameters h e begun r =
    let P : List ℕ → Type 0 = λ x. AllBytes is_blank x in
    inl (subst P (sym (e ∙ append-nil lead)) h, sym (some_is [] parameters r))
back_of back lead (b ∷ bytes) parameters h e begun r =
    elim (truth (are_pieces (b ∷ bytes))) [
      | inl passes ↦
          (let part = part_of (b ∷ bytes) passes in
          let text_is : b ∷ bytes ≡ print_parameters part.tree ++ part.trail =
          sym begun ∙ ap without_lead part.printed ∙ lead_of_tree part.lead part.tree part.trail part.lead_is part.tree_is in
          let read : Some (ended (b ∷ bytes)) ≡ Some parameters = rw passes at r in
          let are : parameters ≡ print_parameters part.tree =
          sym (some_is (ended (b ∷ bytes)) parameters read) ∙ ap ended text_is ∙ ended_is part.tree part.trail part.tree_is part.trail_is part.greedy in
          inr (record {
            lead = lead;
            tree = part.tree;
            trail = part.trail;
            lead_is = h;
            tree_is = part.tree_is;
            trail_is = part.trail_is;
            greedy = part.greedy;
            parameters_are = are;
            printed = e ∙ ap (λ x. lead ++ x) (text_is ∙ ap (λ x. x ++ part.trail) (sym are)) ∙ sym (append_assoc lead parameters part.trail);
          }))
      | inr fails ↦ (let none : None ≡ Some parameters = rw fails at r in cc (none))
    ]

back_is : (back parameters : List ℕ) → parameters_in (without_lead back) ≡ Some parameters → IsBack back parameters
back_is back parameters r =
    let front = lead_is back in
    back_of back front.0 (without_lead back) parameters front.1 front.2 (lead_twice back) r

-- ---- the issuer

issuer_of_test : (issuer : List ℕ) → (is_nil issuer || is_domain issuer) ≡ true → (issuer ≡ []) ⊎ IsDomain issuer
issuer_of_test [] h = inl refl
issuer_of_test (b ∷ bytes) h = inr (domain_is (b ∷ bytes) h)

or_true : (t : Bool) → (t || true) ≡ true
or_true true = refl
or_true false = refl

issuer_passes : (issuer : List ℕ) → (issuer ≡ []) ⊎ IsDomain issuer → (is_nil issuer || is_domain issuer) ≡ true
issuer_passes issuer (inl none) = ap (λ x. is_nil x || is_domain x) none
issuer_passes issuer (inr domain) = ap (λ t. is_nil issuer || t) (domain_passes issuer domain) ∙ or_true (is_nil issuer)

issuer_bytes : (issuer : List ℕ) → (issuer ≡ []) ⊎ IsDomain issuer → AllBytes is_domain_byte issuer
issuer_bytes issuer (inl none) = let P : List ℕ → Type 0 = λ x. AllBytes is_domain_byte x in subst P (sym none) tt
issuer_bytes issuer (inr domain) = domain_bytes issuer domain

front_trimmed : (front issuer : List ℕ) → IsFront front issuer → trimmed front ≡ issuer
front_trimmed front issuer h =
    ap trimmed h.printed
    ∙ trimmed-between h.lead issuer h.trail h.lead_is (IsSolid-from is_domain_byte refl refl issuer (issuer_bytes issuer h.issuer_is)) h.trail_is

front_lacks : (front issuer : List ℕ) → IsFront front issuer → Lacks 59 front
front_lacks front issuer h =
    let P : List ℕ → Type 0 = λ x. Lacks 59 x in
    subst P (sym h.printed)
    (All-append _ (h.lead ++ issuer) h.trail
    (All-append _ h.lead issuer (Lacks-from is_blank 59 refl h.lead h.lead_is) (Lacks-from is_domain_byte 59 refl issuer (issuer_bytes issuer h.issuer_is)))
    (Lacks-from is_blank 59 refl h.trail h.trail_is))

front_is : (front : List ℕ) → (is_nil (trimmed front) || is_domain (trimmed front)) ≡ true → IsFront front (trimmed front)
front_is front h =
    let t = trimmed_is front in
    record { lead = t.0; trail = t.1; lead_is = t.2; trail_is = t.3; issuer_is = issuer_of_test (trimmed front) h; printed = t.4 }

-- ---- the whole value

read_cut-is : (issuer back parameters : List ℕ) → (is_nil issuer || is_domain issuer) ≡ true → parameters_in (without_lead back) ≡ Some parameters →
    read_cut issuer back ≡ Some (issuer, parameters)
read_cut-is issuer back parameters passes r = rw (passes, r) refl

-- what is in the grammar is read, to its issuer and parameters
pub value_is_read : (bytes issuer parameters : List ℕ) → IsIssueValue bytes issuer parameters → read_value bytes ≡ Some (issuer, parameters)
value_is_read bytes issuer parameters h =
    let front = front_trimmed h.front issuer h.front_is in
    let lacks = front_lacks h.front issuer h.front_is in
    let passes = issuer_passes issuer h.front_is.issuer_is in
    elim h.whole [
      | inl plain ↦
          ap read_value plain.0
          ∙ ap (read_sides h.front) (cut_at-none 59 h.front lacks)
          ∙ ap (λ x. read_cut x []) front
          ∙ read_cut-is issuer [] parameters passes (ap Some (sym plain.1))
      | inr cut ↦
          ap read_value cut.1
          ∙ ap (read_sides (h.front ++ 59 ∷ cut.0)) (cut_at-found 59 h.front cut.0 lacks)
          ∙ ap (λ x. read_cut x cut.0) front
          ∙ read_cut-is issuer cut.0 parameters passes (back_is_read cut.0 parameters cut.2)
    ]

-- what a read says of its two sides
record ReadCut (issuer back : List ℕ) (p : List ℕ × List ℕ) : Type 0 where
  passes : (is_nil issuer || is_domain issuer) ≡ true
  first : issuer ≡ p.0
  second : parameters_in (without_lead back) ≡ Some p.1

read_cut_of : (issuer back : List ℕ) (p : List ℕ × List ℕ) (t : Bool) (o : Option (List ℕ)) → (is_nil issuer || is_domain issuer) ≡ t →
    parameters_in (without_lead back) ≡ o → cond t (option_map (λ parameters. (issuer, parameters)) o) None ≡ Some p → ReadCut issuer back p
read_cut_of issuer back p false o passes r e = cc (e)
read_cut_of issuer back p true None passes r e = cc (e)
read_cut_of issuer back p true (Some parameters) passes r e =
    let same = some_is (issuer, parameters) p e in
    record { passes = passes; first = ap (λ x. x.0) same; second = r ∙ ap (λ x. Some x.1) same }

read_cut_says : (issuer back : List ℕ) (p : List ℕ × List ℕ) → read_cut issuer back ≡ Some p → ReadCut issuer back p
read_cut_says issuer back p e = read_cut_of issuer back p _ _ refl refl e

front_of : (front back : List ℕ) (p : List ℕ × List ℕ) → ReadCut (trimmed front) back p → IsFront front p.0
front_of front back p h = let P : List ℕ → Type 0 = λ x. IsFront front x in subst P h.first (front_is front h.passes)

value_of_cut : (bytes : List ℕ) (o : Option (List ℕ × List ℕ)) (p : List ℕ × List ℕ) → IsCut 59 bytes o → read_sides bytes o ≡ Some p →
    IsIssueValue bytes p.0 p.1
value_of_cut bytes None p cut e =
    let says = read_cut_says (trimmed bytes) [] p e in
    record { front = bytes; front_is = front_of bytes [] p says; whole = inl (refl, sym (some_is [] p.1 says.second)) }
value_of_cut bytes (Some sides) p cut e =
    let says = read_cut_says (trimmed sides.0) sides.1 p e in
    record { front = sides.0; front_is = front_of sides.0 sides.1 p says; whole = inr (sides.1, cut.1, back_is sides.1 p.1 says.second) }

-- what is read is in the grammar
pub value_is : (bytes : List ℕ) (p : List ℕ × List ℕ) → read_value bytes ≡ Some p → IsIssueValue bytes p.0 p.1
value_is bytes p e = value_of_cut bytes (cut_at 59 bytes) p (cut_is 59 bytes) e

-- ---- what a reader shows

pub found_is : {V : Type 0} (shown : V → List ℕ × List ℕ) (o : Option V) (bytes : List ℕ) → option_map shown o ≡ read_value bytes →
    IfSome o (λ v. IsIssueValue bytes (shown v).0 (shown v).1)
found_is shown None bytes e = tt
found_is shown (Some v) bytes e = value_is bytes (shown v) (sym e)

pub none_is : {V : Type 0} (shown : V → List ℕ × List ℕ) (o : Option V) (bytes : List ℕ) → option_map shown o ≡ read_value bytes →
    IfNone o ((issuer parameters : List ℕ) → ¬ (IsIssueValue bytes issuer parameters))
none_is shown None bytes e = λ issuer parameters h. cc (e, value_is_read bytes issuer parameters h)
none_is shown (Some v) bytes e = tt

-- one issuer and one list of parameters at most
pub one_value : (bytes i p j q : List ℕ) → IsIssueValue bytes i p → IsIssueValue bytes j q → (i ≡ j) × (p ≡ q)
one_value bytes i p j q h k =
    let same = some_is (i, p) (j, q) (sym (value_is_read bytes i p h) ∙ value_is_read bytes j q k) in
    (ap (λ x. x.0) same, ap (λ x. x.1) same)
