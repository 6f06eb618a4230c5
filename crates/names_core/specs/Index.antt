-- Sets of labels, and the rules that they stand for.
use Rattle.std.specs.Prelude.{◌≡◌, ℕ, Bool, true, false, ◌&&◌, ◌||◌, List}
use Rattle.std.specs.Ordering.{nat_cmp}
use Rattle.std.specs.Cmp.Lexicographic.{slice_cmp}
use Rattle.std.specs.List.{list_any}
use Rattle.std.specs.BTreeSet.{contains_by}
use Rattle.names_core.specs.declared.rule.Rule.{Rule}
use Rattle.names_core.specs.declared.rule.RuleKind.{RuleKind}
use Rattle.names_core.specs.declared.rule.RuleKind.TheVariants.{Plain, Wild, Exception}
use Rattle.names_core.specs.declared.index.Index.{Index}
use Rattle.names_core.specs.Suffix.{labels_eq}

abbrev pub is_same_kind : RuleKind → RuleKind → Bool
is_same_kind Plain Plain = true
is_same_kind Plain Wild = false
is_same_kind Plain Exception = false
is_same_kind Wild Plain = false
is_same_kind Wild Wild = true
is_same_kind Wild Exception = false
is_same_kind Exception Plain = false
is_same_kind Exception Wild = false
is_same_kind Exception Exception = true

-- the rule is of this kind and has these labels
abbrev pub is_rule : RuleKind → List (List ℕ) → Rule → Bool
is_rule kind labels rule = is_same_kind kind rule.kind && labels_eq labels rule.labels

-- whether some rule is
abbrev pub is_listed : RuleKind → List (List ℕ) → List Rule → Bool
is_listed kind labels rules = list_any (is_rule kind labels) rules

-- whether the index has a rule of this kind with these labels
abbrev pub is_in : RuleKind → List (List ℕ) → Index → Bool
is_in Plain labels index = contains_by (λ key. slice_cmp (slice_cmp nat_cmp) labels key.items) index.plain
is_in Wild labels index = contains_by (λ key. slice_cmp (slice_cmp nat_cmp) labels key.items) index.wild
is_in Exception labels index = contains_by (λ key. slice_cmp (slice_cmp nat_cmp) labels key.items) index.exceptions

-- the index has the rules that are listed, and no other
abbrev pub Indexes : Index → List Rule → Type 0
Indexes index rules = (kind : RuleKind) (labels : List (List ℕ)) → is_in kind labels index ≡ is_listed kind labels rules

-- the new index has what the old one has, and the rule
abbrev pub Adds : Index → Index → Rule → Type 0
Adds old new rule = (kind : RuleKind) (labels : List (List ℕ)) → is_in kind labels new ≡ (is_rule kind labels rule || is_in kind labels old)
