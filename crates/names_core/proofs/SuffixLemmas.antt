-- What an index says of the rules that match, and the longest tail that passes.
use Rattle.std.proofs.Common.{◌≡◌, ℕ, Bool, true, false, not, ◌&&◌, ◌||◌, List, [], ◌∷◌, length, Some, None, refl, sym, ap, ap₂, subst, ◌∙◌, arith}
use Rattle.std.specs.List.{list_any}
use Rattle.std.proofs.Math.Bool.{or-false}
use Rattle.std.proofs.lemmas.List.{nil_from_length}
use Rattle.std.proofs.lemmas.Bool.{cond-true, cond-false}
use Rattle.names_core.specs.declared.rule.Rule.{Rule}
use Rattle.names_core.specs.declared.rule.RuleKind.{RuleKind}
use Rattle.names_core.specs.declared.rule.RuleKind.TheVariants.{Plain, Wild, Exception}
use Rattle.names_core.specs.Suffix.{covers, is_exception, is_of_kind, labels_eq, longest_tail}
use Rattle.names_core.specs.Index.{is_listed, is_rule, is_same_kind}

list_any-same : (f g : Rule → Bool) → ((rule : Rule) → f rule ≡ g rule) → (rules : List Rule) → list_any f rules ≡ list_any g rules
list_any-same f g same [] = refl
list_any-same f g same (rule ∷ rules) = ap₂ ◌||◌ (same rule) (list_any-same f g same rules)

or_pairs : (a b c d : Bool) → ((a || b) || (c || d)) ≡ ((a || c) || (b || d))
or_pairs true b c d = refl
or_pairs false true true d = refl
or_pairs false true false d = refl
or_pairs false false c d = refl

list_any-or : (f g : Rule → Bool) (rules : List Rule) → list_any (λ rule. f rule || g rule) rules ≡ (list_any f rules || list_any g rules)
list_any-or f g [] = refl
list_any-or f g (rule ∷ rules) =
    ap (λ b. (f rule || g rule) || b) (list_any-or f g rules) ∙ or_pairs (f rule) (g rule) (list_any f rules) (list_any g rules)

exception_by : (kind : RuleKind) (labels tail : List (List ℕ)) → (is_same_kind Exception kind && labels_eq tail labels) ≡ (is_exception kind && is_of_kind kind labels tail)
exception_by Plain labels tail = refl
exception_by Wild labels tail = refl
exception_by Exception labels tail = refl

pub exceptions-listed : (tail : List (List ℕ)) (rules : List Rule) → is_listed Exception tail rules ≡ list_any (λ rule. is_exception rule.kind && covers tail rule) rules
exceptions-listed tail rules =
    list_any-same (is_rule Exception tail) (λ rule. is_exception rule.kind && covers tail rule) (λ rule. exception_by rule.kind rule.labels tail) rules

ordinary_by_none : (kind : RuleKind) (labels : List (List ℕ)) → (is_same_kind Plain kind && labels_eq [] labels) ≡ (not (is_exception kind) && is_of_kind kind labels [])
ordinary_by_none Plain labels = refl
ordinary_by_none Wild labels = refl
ordinary_by_none Exception labels = refl

-- some rule that is no exception covers the labels
abbrev pub is_ordinary : List Rule → List (List ℕ) → Bool
is_ordinary rules tail = list_any (λ rule. not (is_exception rule.kind) && covers tail rule) rules

ordinary-listed_none : (rules : List Rule) → is_listed Plain [] rules ≡ is_ordinary rules []
ordinary-listed_none rules =
    list_any-same (is_rule Plain []) (λ rule. not (is_exception rule.kind) && covers [] rule) (λ rule. ordinary_by_none rule.kind rule.labels) rules

pub ordinary-none : (tail : List (List ℕ)) (rules : List Rule) → length tail ≡ 0 → is_listed Plain tail rules ≡ is_ordinary rules tail
ordinary-none tail rules empty = subst (λ labels. is_listed Plain labels rules ≡ is_ordinary rules labels) (sym (nil_from_length tail empty)) (ordinary-listed_none rules)

ordinary_by : (kind : RuleKind) (labels : List (List ℕ)) (first : List ℕ) (rest : List (List ℕ)) → ((is_same_kind Plain kind && labels_eq (first ∷ rest) labels) || (is_same_kind Wild kind && labels_eq rest labels)) ≡ (not (is_exception kind) && is_of_kind kind labels (first ∷ rest))
ordinary_by Plain labels first rest = or-false (labels_eq (first ∷ rest) labels)
ordinary_by Wild labels first rest = refl
ordinary_by Exception labels first rest = refl

ordinary-listed : (first : List ℕ) (rest : List (List ℕ)) (rules : List Rule) → (is_listed Plain (first ∷ rest) rules || is_listed Wild rest rules) ≡ is_ordinary rules (first ∷ rest)
ordinary-listed first rest rules =
    sym (list_any-or (is_rule Plain (first ∷ rest)) (is_rule Wild rest) rules)
    ∙ list_any-same (λ rule. is_rule Plain (first ∷ rest) rule || is_rule Wild rest rule) (λ rule. not (is_exception rule.kind) && covers (first ∷ rest) rule) (λ rule. ordinary_by rule.kind rule.labels first rest) rules

pub ordinary-some : (tail : List (List ℕ)) (first : List ℕ) (rest : List (List ℕ)) (rules : List Rule) (plain wild : Bool) → tail ≡ first ∷ rest → plain ≡ is_listed Plain tail rules → wild ≡ is_listed Wild rest rules → (plain || wild) ≡ is_ordinary rules tail
ordinary-some tail first rest rules plain wild split is_plain is_wild =
    ap₂ ◌||◌ is_plain is_wild
    ∙ subst (λ labels. (is_listed Plain labels rules || is_listed Wild rest rules) ≡ is_ordinary rules labels) (sym split) (ordinary-listed first rest rules)

pub longest_tail-here : (test : List (List ℕ) → Bool) (tail : List (List ℕ)) → test tail ≡ true → longest_tail test tail ≡ Some (length tail)
longest_tail-here test [] passes = cond-true (test []) (Some 0) None passes
longest_tail-here test (first ∷ rest) passes = cond-true (test (first ∷ rest)) (Some (length (first ∷ rest))) (longest_tail test rest) passes

pub longest_tail-none : (test : List (List ℕ) → Bool) (tail : List (List ℕ)) → test tail ≡ false → length tail ≡ 0 → longest_tail test tail ≡ None
longest_tail-none test [] fails empty = cond-false (test []) (Some 0) None fails
longest_tail-none test (first ∷ rest) fails empty = absurd (omega arith)

longest_tail-cons : (test : List (List ℕ) → Bool) (first : List ℕ) (rest : List (List ℕ)) → test (first ∷ rest) ≡ false → longest_tail test (first ∷ rest) ≡ longest_tail test rest
longest_tail-cons test first rest fails = cond-false (test (first ∷ rest)) (Some (length (first ∷ rest))) (longest_tail test rest) fails

pub longest_tail-next : (test : List (List ℕ) → Bool) (tail : List (List ℕ)) (first : List ℕ) (rest : List (List ℕ)) → test tail ≡ false → tail ≡ first ∷ rest → longest_tail test rest ≡ longest_tail test tail
longest_tail-next test tail first rest fails split =
    sym (longest_tail-cons test first rest (ap test (sym split) ∙ fails)) ∙ ap (longest_tail test) (sym split)

-- some exception covers the labels
abbrev pub is_excepted : List Rule → List (List ℕ) → Bool
is_excepted rules tail = list_any (λ rule. is_exception rule.kind && covers tail rule) rules
