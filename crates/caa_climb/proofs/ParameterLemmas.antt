-- Parameters are what the test of each part between semicolons passes.
use Rattle.std.proofs.Common.{◌≡◌, ◌∙◌, refl, sym, ap, subst, ℕ, Bool, true, false, not, List, [], ◌∷◌, ◌++◌}
use Rattle.std.specs.Prelude.{Option, Some, None}
use Rattle.std.specs.List.{list_all, join_with_byte}
use Rattle.std.proofs.lemmas.List.{append_assoc, append-nil}
use Rattle.caa_climb.specs.IssueValue.{AllBytes, is_blank, is_value_byte, IsLabel, Parameter, IsParameter, print_parameter, Parameters, one, also, AreParameters, print_parameters, last_value}
use Rattle.caa_climb.specs.Reading.{cut_at, is_nil, trimmed, is_label, is_piece, is_cut_parameter, has_value, has_cut_value, last_piece, ended, are_pieces}
use Rattle.caa_climb.proofs.Bytes.{All-append, Lacks, Lacks-from, IsSolid-from, IsCut, cut_is, cut_at-found, trimmed_is, trimmed-between, without_trail-blanks, without_trail-behind}
use Rattle.caa_climb.proofs.Labels.{and_both, label_is, label_passes, is_label_byte, label_bytes}
use Rattle.caa_climb.proofs.Places.{slice_split-at, slice_split-none}

all_pass : (test : ℕ → Bool) (bytes : List ℕ) → AllBytes test bytes → list_all test bytes ≡ true
all_pass test [] h = refl
all_pass test (b ∷ bytes) h = let here = h.0 in rw here (all_pass test bytes h.1)

all_bytes : (test : ℕ → Bool) (bytes : List ℕ) → list_all test bytes ≡ true → AllBytes test bytes
all_bytes test [] h = tt
all_bytes test (b ∷ bytes) h = let both = and_both (test b) (list_all test bytes) h in (both.0, all_bytes test bytes both.1)

-- ---- one parameter, with blanks around it

abbrev Around : List ℕ → Parameter → List ℕ → List ℕ
Around lead p trail = lead ++ print_parameter p ++ trail

at_equals : (lead tag before after value trail : List ℕ) →
    lead ++ (tag ++ before ++ 61 ∷ after ++ value) ++ trail ≡ (lead ++ tag ++ before) ++ 61 ∷ (after ++ value ++ trail)
at_equals lead tag before after value trail = simp append_assoc

around_cut : (lead : List ℕ) (p : Parameter) (trail : List ℕ) → AllBytes is_blank lead → IsParameter p →
    cut_at 61 (Around lead p trail) ≡ Some (lead ++ p.tag ++ p.before, p.after ++ p.value ++ trail)
around_cut lead p trail h is =
    ap (cut_at 61) (at_equals lead p.tag p.before p.after p.value trail)
    ∙ cut_at-found 61 (lead ++ p.tag ++ p.before) (p.after ++ p.value ++ trail)
    (All-append _ (lead ++ p.tag) p.before
    (All-append _ lead p.tag (Lacks-from is_blank 61 refl lead h) (Lacks-from is_label_byte 61 refl p.tag (label_bytes p.tag is.tag)))
    (Lacks-from is_blank 61 refl p.before is.before))

around_tag : (lead : List ℕ) (p : Parameter) → AllBytes is_blank lead → IsParameter p → trimmed (lead ++ p.tag ++ p.before) ≡ p.tag
around_tag lead p h is = trimmed-between lead p.tag p.before h (IsSolid-from is_label_byte refl refl p.tag (label_bytes p.tag is.tag)) is.before

around_value : (p : Parameter) (trail : List ℕ) → IsParameter p → AllBytes is_blank trail → trimmed (p.after ++ p.value ++ trail) ≡ p.value
around_value p trail is k = trimmed-between p.after p.value trail is.after (IsSolid-from is_value_byte refl refl p.value is.value) k

around_passes : (lead : List ℕ) (p : Parameter) (trail : List ℕ) → AllBytes is_blank lead → IsParameter p → AllBytes is_blank trail →
    is_piece (Around lead p trail) ≡ true
around_passes lead p trail h is k =
    let tag : is_label (trimmed (lead ++ p.tag ++ p.before)) ≡ true = ap is_label (around_tag lead p h is) ∙ label_passes p.tag is.tag in
    let value : list_all is_value_byte (trimmed (p.after ++ p.value ++ trail)) ≡ true =
    ap (list_all is_value_byte) (around_value p trail is k) ∙ all_pass is_value_byte p.value is.value in
    ap is_cut_parameter (around_cut lead p trail h is) ∙ rw (tag, value) refl

around_has_value : (lead : List ℕ) (p : Parameter) (trail : List ℕ) → AllBytes is_blank lead → IsParameter p → AllBytes is_blank trail →
    has_value (Around lead p trail) ≡ not (is_nil p.value)
around_has_value lead p trail h is k =
    ap has_cut_value (around_cut lead p trail h is) ∙ ap (λ v. not (is_nil v)) (around_value p trail is k)

around_lacks : (lead : List ℕ) (p : Parameter) (trail : List ℕ) → AllBytes is_blank lead → IsParameter p → AllBytes is_blank trail →
    Lacks 59 (Around lead p trail)
around_lacks lead p trail h is k =
    All-append _ (lead ++ print_parameter p) trail
    (All-append _ lead (print_parameter p) (Lacks-from is_blank 59 refl lead h)
    (All-append _ (p.tag ++ p.before ++ 61 ∷ p.after) p.value
    (All-append _ (p.tag ++ p.before) (61 ∷ p.after)
    (All-append _ p.tag p.before (Lacks-from is_label_byte 59 refl p.tag (label_bytes p.tag is.tag)) (Lacks-from is_blank 59 refl p.before is.before))
    (refl, Lacks-from is_blank 59 refl p.after is.after))
    (Lacks-from is_value_byte 59 refl p.value is.value)))
    (Lacks-from is_blank 59 refl trail k)

-- what passes the test of a part
record Piece (piece : List ℕ) : Type 0 where
  lead : List ℕ
  parameter : Parameter
  trail : List ℕ
  lead_is : AllBytes is_blank lead
  parameter_is : IsParameter parameter
  trail_is : AllBytes is_blank trail
  greedy : parameter.value ≡ [] → trail ≡ []
  printed : piece ≡ Around lead parameter trail

no_value : (lead tag before after trail : List ℕ) →
    (lead ++ tag ++ before) ++ 61 ∷ (after ++ [] ++ trail) ≡ lead ++ (tag ++ before ++ 61 ∷ (after ++ trail) ++ []) ++ []
no_value lead tag before after trail = simp (append_assoc, append-nil)

piece_of : (piece lead tag before after value trail : List ℕ) → AllBytes is_blank lead → IsLabel tag → AllBytes is_blank before →
    AllBytes is_blank after → AllBytes is_value_byte value → AllBytes is_blank trail →
    piece ≡ (lead ++ tag ++ before) ++ 61 ∷ (after ++ value ++ trail) → Piece piece
piece_of piece lead tag before after [] trail l t b a v k e =
    record {
      lead = lead;
      parameter = record { tag = tag; before = before; after = after ++ trail; value = [] };
      trail = [];
      lead_is = l;
      parameter_is = record { tag = t; before = b; after = All-append _ after trail a k; value = tt };
      trail_is = tt;
      greedy = λ h. refl;
      printed = e ∙ no_value lead tag before after trail;
    }
piece_of piece lead tag before after (c ∷ cs) trail l t b a v k e =
    record {
      lead = lead;
      parameter = record { tag = tag; before = before; after = after; value = c ∷ cs };
      trail = trail;
      lead_is = l;
      parameter_is = record { tag = t; before = b; after = a; value = v };
      trail_is = k;
      greedy = λ h. cc (h);
      printed = e ∙ sym (at_equals lead tag before after (c ∷ cs) trail);
    }

piece_of_cut : (piece : List ℕ) (o : Option (List ℕ × List ℕ)) → IsCut 61 piece o → is_cut_parameter o ≡ true → Piece piece
piece_of_cut piece None cut h = cc (h)
piece_of_cut piece (Some p) cut h =
    let both = and_both (is_label (trimmed p.0)) (list_all is_value_byte (trimmed p.1)) h in
    let left = trimmed_is p.0 in
    let right = trimmed_is p.1 in
    piece_of piece left.0 (trimmed p.0) left.1 right.0 (trimmed p.1) right.1 left.2 (label_is (trimmed p.0) both.0) left.3
    right.2 (all_bytes is_value_byte (trimmed p.1) both.1) right.3
    (cut.1 ∙ ap (λ x. x ++ 61 ∷ p.1) left.4 ∙ ap (λ x. (left.0 ++ trimmed p.0 ++ left.1) ++ 61 ∷ x) right.4)

piece_is : (piece : List ℕ) → is_piece piece ≡ true → Piece piece
piece_is piece h = piece_of_cut piece (cut_at 61 piece) (cut_is 61 piece) h

-- ---- parameters between semicolons

-- what passes the test of each part
pub record Part (text : List ℕ) : Type 0 where
  pub lead : List ℕ
  pub tree : Parameters
  pub trail : List ℕ
  pub lead_is : AllBytes is_blank lead
  pub tree_is : AreParameters tree
  pub trail_is : AllBytes is_blank trail
  pub greedy : last_value tree ≡ [] → trail ≡ []
  pub printed : text ≡ lead ++ print_parameters tree ++ trail

at_semicolon : (lead p before after others trail : List ℕ) →
    lead ++ (p ++ before ++ 59 ∷ after ++ others) ++ trail ≡ (lead ++ p ++ before) ++ 59 ∷ (after ++ others ++ trail)
at_semicolon lead p before after others trail = simp append_assoc

pub part_is : (first : List ℕ) (others : List (List ℕ)) → list_all is_piece (first ∷ others) ≡ true → Part (join_with_byte 59 (first ∷ others))
part_is first [] h =
    let both = and_both (is_piece first) true h in
    let piece = piece_is first both.0 in
    record {
      lead = piece.lead;
      tree = one piece.parameter;
      trail = piece.trail;
      lead_is = piece.lead_is;
      tree_is = piece.parameter_is;
      trail_is = piece.trail_is;
      greedy = piece.greedy;
      printed = piece.printed;
    }
part_is first (next ∷ others) h =
    let both = and_both (is_piece first) (list_all is_piece (next ∷ others)) h in
    let piece = piece_is first both.0 in
    let rest = part_is next others both.1 in
    record {
      lead = piece.lead;
      tree = also piece.parameter piece.trail rest.lead rest.tree;
      trail = rest.trail;
      lead_is = piece.lead_is;
      tree_is = (piece.parameter_is, piece.trail_is, rest.lead_is, rest.tree_is);
      trail_is = rest.trail_is;
      greedy = rest.greedy;
      printed =
          ap (λ x. x ++ 59 ∷ join_with_byte 59 (next ∷ others)) piece.printed
          ∙ ap (λ x. Around piece.lead piece.parameter piece.trail ++ 59 ∷ x) rest.printed
          ∙ sym (at_semicolon piece.lead (print_parameter piece.parameter) piece.trail rest.lead (print_parameters rest.tree) rest.trail);
    }

pub part_passes : (lead : List ℕ) (tree : Parameters) (trail : List ℕ) → AllBytes is_blank lead → AreParameters tree → AllBytes is_blank trail →
    are_pieces (lead ++ print_parameters tree ++ trail) ≡ true
part_passes lead (one p) trail h is k =
    let passes = around_passes lead p trail h is k in
    ap (list_all is_piece) (slice_split-none 59 (Around lead p trail) (around_lacks lead p trail h is k)) ∙ rw passes refl
part_passes lead (also p before after others) trail h is k =
    let passes = around_passes lead p before h is.0 is.1 in
    ap are_pieces (at_semicolon lead (print_parameter p) before after (print_parameters others) trail)
    ∙ ap (list_all is_piece) (slice_split-at 59 (Around lead p before) (after ++ print_parameters others ++ trail) (around_lacks lead p before h is.0 is.1))
    ∙ rw passes (part_passes after others trail is.2 is.3 k)

last_piece-at : (piece xs ys : List ℕ) → Lacks 59 xs → last_piece piece (xs ++ 59 ∷ ys) ≡ last_piece ys ys
last_piece-at piece [] ys h = refl
last_piece-at piece (x ∷ xs) ys h = let differs = h.0 in rw differs (last_piece-at piece xs ys h.1)

last_piece-none : (piece xs : List ℕ) → Lacks 59 xs → last_piece piece xs ≡ piece
last_piece-none piece [] h = refl
last_piece-none piece (x ∷ xs) h = let differs = h.0 in rw differs (last_piece-none piece xs h.1)

-- whether the last parameter has a value
part_has_value : (lead : List ℕ) (tree : Parameters) (trail : List ℕ) → AllBytes is_blank lead → AreParameters tree → AllBytes is_blank trail →
    has_value (last_piece (lead ++ print_parameters tree ++ trail) (lead ++ print_parameters tree ++ trail)) ≡ not (is_nil (last_value tree))
part_has_value lead (one p) trail h is k =
    ap has_value (last_piece-none (Around lead p trail) (Around lead p trail) (around_lacks lead p trail h is k))
    ∙ around_has_value lead p trail h is k
part_has_value lead (also p before after others) trail h is k =
    ap (λ text. has_value (last_piece text text)) (at_semicolon lead (print_parameter p) before after (print_parameters others) trail)
    ∙ ap has_value (last_piece-at ((Around lead p before) ++ 59 ∷ (after ++ print_parameters others ++ trail)) (Around lead p before)
    (after ++ print_parameters others ++ trail) (around_lacks lead p before h is.0 is.1))
    ∙ part_has_value after others trail is.2 is.3 k

-- ---- where the parameters end

tree_ends : (tree : Parameters) → (front : List ℕ) × (print_parameters tree ≡ front ++ last_value tree)
tree_ends (one p) = (p.tag ++ p.before ++ 61 ∷ p.after, refl)
tree_ends (also p before after others) =
    let rest = tree_ends others in (
      (print_parameter p ++ before ++ 59 ∷ after) ++ rest.0,
      ap (λ x. (print_parameter p ++ before ++ 59 ∷ after) ++ x) rest.1
          ∙ sym (append_assoc (print_parameter p ++ before ++ 59 ∷ after) rest.0 (last_value others)),
    )

last_value_bytes : (tree : Parameters) → AreParameters tree → AllBytes is_value_byte (last_value tree)
last_value_bytes (one p) is = is.value
last_value_bytes (also p before after others) is = last_value_bytes others is.3

whole_end : (front value trail : List ℕ) → AllBytes is_value_byte value → AllBytes is_blank trail → (value ≡ [] → trail ≡ []) →
    has_value (last_piece ((front ++ value) ++ trail) ((front ++ value) ++ trail)) ≡ not (is_nil value) →
    ended ((front ++ value) ++ trail) ≡ front ++ value
whole_end front [] trail v k greedy h =
    let none = greedy refl in
    let fails : has_value (last_piece ((front ++ []) ++ trail) ((front ++ []) ++ trail)) ≡ false = h in
    rw fails (ap (λ x. (front ++ []) ++ x) none ∙ append-nil (front ++ []))
whole_end front (c ∷ cs) trail v k greedy h =
    let passes : has_value (last_piece ((front ++ c ∷ cs) ++ trail) ((front ++ c ∷ cs) ++ trail)) ≡ true = h in
    rw passes (without_trail-blanks (front ++ c ∷ cs) trail k
    ∙ without_trail-behind front c cs (IsSolid-from is_value_byte refl refl (c ∷ cs) v))

-- behind a value blanks are no part of the parameters
pub ended_is : (tree : Parameters) (trail : List ℕ) → AreParameters tree → AllBytes is_blank trail → (last_value tree ≡ [] → trail ≡ []) →
    ended (print_parameters tree ++ trail) ≡ print_parameters tree
ended_is tree trail is k greedy =
    let ends = tree_ends tree in
    let P : List ℕ → Type 0 = λ text. has_value (last_piece (text ++ trail) (text ++ trail)) ≡ not (is_nil (last_value tree)) in
    ap (λ text. ended (text ++ trail)) ends.1
    ∙ whole_end ends.0 (last_value tree) trail (last_value_bytes tree is) k greedy (subst P ends.1 (part_has_value [] tree trail tt is k))
    ∙ sym ends.1
