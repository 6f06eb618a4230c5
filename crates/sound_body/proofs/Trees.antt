-- Trees in the form of DER: which of them are sequences, and that a form of few levels is one of more.
use Rattle.std.proofs.Common.{◌≡◌, ℕ, zero, suc, List, ◌∷◌, false, ap}
use Rattle.der_text.specs.Content.{is_constructed}
use Rattle.der_text.specs.Tree.{Node, primitive, constructed, Nodes, no_nodes, also, spelling, IsInForm, AreInForm}

mutual
  unfolding IsInForm AreInForm

  pub deeper : (levels : ℕ) (tree : Node) → IsInForm levels tree → IsInForm (suc levels) tree
  deeper zero (primitive tag content) form = absurd form
  deeper zero (constructed tag parts) form = absurd form
  deeper (suc levels) (primitive tag content) form = form
  deeper (suc levels) (constructed tag parts) form = (form.0, form.1, all_deeper levels parts form.2)

  all_deeper : (levels : ℕ) (trees : Nodes) → AreInForm levels trees → AreInForm (suc levels) trees
  all_deeper levels no_nodes form = tt
  all_deeper levels (also first others) form = (deeper levels first form.0, all_deeper levels others form.1)

-- a tree whose spelling begins with the tag of a SEQUENCE has parts
pub is_sequence : (levels : ℕ) (tree : Node) (rest : List ℕ) → IsInForm levels tree → spelling tree ≡ 48 ∷ rest
    → (parts : Nodes) × (tree ≡ constructed 48 parts)
unfolding IsInForm
is_sequence zero (primitive tag content) rest form e = absurd form
is_sequence zero (constructed tag parts) rest form e = absurd form
is_sequence (suc levels) (primitive tag content) rest form e =
    let tagged : tag ≡ 48 = cc e in
    let not_constructed : is_constructed 48 ≡ false = rw tagged at form.0 in
    absurd (cc not_constructed)
is_sequence (suc levels) (constructed tag parts) rest form e =
    let tagged : tag ≡ 48 = cc e in
    (parts, ap (λ (t : ℕ). constructed t parts) tagged)
