-- The rules on names, of good targets.
use Rattle.std.proofs.Common.{◌≡◌, ◌≢◌, ◌≤◌, Bool, true, false, nat_le, IsTrue, if◌then◌else◌, List, [], ◌∷◌, length, map, refl, sym, ap, arith}
use Rattle.std.proofs.lemmas.Bool.{and_parts, le-leb, le-ltb}
use Rattle.std.proofs.lemmas.List.{length-map}
use Rattle.std.proofs.lemmas.Slice.Eq.{bytes_eq-Decides, slice_eq-Decides}
use Rattle.std.specs.List.{AllByRecursion, list_any}
use Rattle.gate_base.specs.declared.name.Address.{Address}
use Rattle.gate_base.specs.declared.name.Address.TheVariants.{V4, V6}
use Rattle.gate_base.specs.declared.name.Name.{Name}
use Rattle.gate_base.specs.declared.name.Target.{Target}
use Rattle.gate_base.specs.declared.name.Target.TheVariants.{Dns, Ip}
use Rattle.der_text.specs.Tree.{Node}
use Rattle.der_text.specs.View.{nodes_of}
use Rattle.names_core.specs.Suffix.{labels_eq}
use Rattle.names_core.specs.Target.{name_text}
use Rattle.tbs_build.specs.Body.{first_text}
use Rattle.tbs_build.specs.Names.{general_name, general_names, IsTarget}
use Rattle.tbs_build.specs.Plan.{begins_with_name}
use Rattle.profile_lint.specs.Names.{targets_of, is_bad_dns_name, is_general_name, bool_eq, name_eq, address_eq, target_eq}
use Rattle.profile_lint.specs.Parts.{any_part, count_parts, one_if, has_twice}
use Rattle.profile_lint.specs.Rules as rules
use Rattle.sound_body.specs.Good.{AreDistinct}
use Rattle.sound_body.specs.Rules.{HasItsOctets}
use Rattle.sound_body.specs.Said.{common_name_read}
use Rattle.sound_body.proofs.Keys.{same_bytes}
use Rattle.sound_body.proofs.Texts.{is_of_ascii, has_no_upper_case, has_a_text}

pub have_their_octets : (targets : List Target) → AllByRecursion IsTarget targets → AllByRecursion HasItsOctets targets
have_their_octets [] each = tt
have_their_octets (Dns name ∷ targets) each = (tt, have_their_octets targets each.1)
have_their_octets (Ip (V4 octets) ∷ targets) each = (each.0, have_their_octets targets each.1)
have_their_octets (Ip (V6 octets) ∷ targets) each = (each.0, have_their_octets targets each.1)

-- the names show the targets that they were made of
pub targets_are_shown : (targets : List Target) → AllByRecursion IsTarget targets
    → targets_of (general_names targets) ≡ targets
targets_are_shown [] each = refl
targets_are_shown (Dns name ∷ targets) each =
    rw each.0 (ap (λ (others : List Target). Dns name ∷ others) (targets_are_shown targets each.1))
targets_are_shown (Ip (V4 octets) ∷ targets) each =
    rw each.0 (ap (λ (others : List Target). Ip (V4 octets) ∷ others) (targets_are_shown targets each.1))
targets_are_shown (Ip (V6 octets) ∷ targets) each =
    rw each.0 (ap (λ (others : List Target). Ip (V6 octets) ∷ others) (targets_are_shown targets each.1))

-- ---- L20

texts_are_kept : (targets : List Target) → AllByRecursion IsTarget targets
    → any_part is_bad_dns_name (general_names targets) ≡ false
texts_are_kept [] each = refl
texts_are_kept (Dns name ∷ targets) each =
    rw (each.0, has_no_upper_case name each.0) (texts_are_kept targets each.1)
texts_are_kept (Ip (V4 octets) ∷ targets) each = texts_are_kept targets each.1
texts_are_kept (Ip (V6 octets) ∷ targets) each = texts_are_kept targets each.1

same_wild : (wild other : Bool) → IsTrue (bool_eq wild other) → wild ≡ other
same_wild true true is = refl
same_wild true false is = absurd (cc is)
same_wild false true is = absurd (cc is)
same_wild false false is = refl

-- a record, field by field
abbrev again : Name → Name
again name = record { labels = name.labels; wild = name.wild }

same_name : (name other : Name) → IsTrue (name_eq name other) → name ≡ other
same_name name other is =
    let parts = and_parts (labels_eq name.labels other.labels) (bool_eq name.wild other.wild) is in
    let labels : name.labels ≡ other.labels =
    (slice_eq-Decides bytes_eq-Decides name.labels other.labels _ refl).0 parts.0 in
    let wild : name.wild ≡ other.wild = same_wild name.wild other.wild parts.1 in
    let whole : again name ≡ again other = cc (labels, wild) in
    whole

same_address : (address other : Address) → IsTrue (address_eq address other) → address ≡ other
same_address (V4 octets) (V4 others) is = ap V4 ((bytes_eq-Decides octets others).0 is)
same_address (V4 octets) (V6 others) is = absurd (cc is)
same_address (V6 octets) (V4 others) is = absurd (cc is)
same_address (V6 octets) (V6 others) is = ap V6 ((bytes_eq-Decides octets others).0 is)

same_target : (target other : Target) → IsTrue (target_eq target other) → target ≡ other
same_target (Dns name) (Dns other) is = ap Dns (same_name name other is)
same_target (Dns name) (Ip other) is = absurd (cc is)
same_target (Ip address) (Dns other) is = absurd (cc is)
same_target (Ip address) (Ip other) is = ap Ip (same_address address other is)

is_another : (target other : Target) (same : Bool) → target_eq target other ≡ same → other ≢ target → same ≡ false
is_another target other true e differs = absurd (differs (sym (same_target target other e)))
is_another target other false e differs = refl

not_among : (target : Target) (others : List Target) → AllByRecursion (λ other. other ≢ target) others
    → list_any (target_eq target) others ≡ false
not_among target [] differs = refl
not_among target (other ∷ others) differs =
    rw (is_another target other (target_eq target other) refl differs.0) (not_among target others differs.1)

distinct_is_kept : (targets : List Target) → AreDistinct targets → has_twice target_eq targets ≡ false
distinct_is_kept [] distinct = refl
distinct_is_kept (target ∷ targets) distinct =
    rw (not_among target targets distinct.0) (distinct_is_kept targets distinct.1)

pub names_are_good : (targets : List Target) → AllByRecursion IsTarget targets → AreDistinct targets
    → rules.a_name_is_bad (general_names targets) ≡ false
names_are_good targets each distinct =
    rw (texts_are_kept targets each, targets_are_shown targets each) (distinct_is_kept targets distinct)

-- ---- L34

one_at_most : (is : Bool) → one_if is ≤ 1
one_at_most true = omega arith
one_at_most false = omega arith

no_more_than : (test : Node → Bool) (trees : List Node) → count_parts test (nodes_of trees) ≤ length trees
no_more_than test [] = omega arith
no_more_than test (tree ∷ trees) = omega (arith, one_at_most (test tree), no_more_than test trees)

pub names_are_few : (targets : List Target) → length targets ≤ 100 → rules.names_are_many (general_names targets) ≡ false
names_are_few targets few =
    let count = no_more_than is_general_name (map general_name targets) in
    le-ltb 100 _ (omega (arith, few, count, length-map targets general_name))

-- ---- L11

first_is_kept : (targets : List Target) → AllByRecursion IsTarget targets → IsTrue (begins_with_name targets)
    → length (first_text targets) ≤ 64
    → rules.a_common_name_is_bad targets (common_name_read (first_text targets) ∷ []) ≡ false
first_is_kept [] each named short = absurd (cc named)
first_is_kept (Ip address ∷ targets) each named short = absurd (cc named)
first_is_kept (Dns name ∷ targets) each named short =
    let low : nat_le (length (name_text name)) 64 ≡ true = le-leb (length (name_text name)) 64 short in
    rw (has_a_text name each.0, low, is_of_ascii name each.0, same_bytes (name_text name)) refl

pub common_name_is_kept : (common : Bool) (targets : List Target) → AllByRecursion IsTarget targets
    → (IsTrue common → IsTrue (begins_with_name targets)) → (IsTrue common → length (first_text targets) ≤ 64)
    → rules.a_common_name_is_bad targets (if common then common_name_read (first_text targets) ∷ [] else []) ≡ false
common_name_is_kept true targets each named short = first_is_kept targets each (named refl) (short refl)
common_name_is_kept false targets each named short = refl
