-- The verdict by all rules from those by some of them, and what it says.
use Rattle.std.proofs.Common.{◌≡◌, ℕ, ◌<◌, ◌≤◌, ◌⊎◌, Bool, true, false, cond, ◌&&◌, nat_le, List, [], ◌∷◌, ◌++◌, Option, Some, None, refl, sym, ap, ap₂, ◌∙◌, inl, inr, arith}
use Rattle.std.specs.List.{find, list_all, AllByRecursion}
use Rattle.std.proofs.lemmas.Bool.{and_parts}
use Rattle.std.proofs.lemmas.Bool.Decides.{nat_tests}
use Rattle.gate_base.specs.declared.seen.DnsSeen.{DnsSeen}
use Rattle.gate_base.specs.declared.seen.Seen.{Seen}
use Rattle.gate_base.specs.declared.seen.Seen.TheVariants.{Dns, Web}
use Rattle.gate_base.specs.declared.seen.WebSeen.{WebSeen}
use Rattle.domain_methods.specs.declared.challenge.Challenge.{Challenge}
use Rattle.domain_methods.specs.declared.verdict.Verdict.{Verdict}
use Rattle.domain_methods.specs.declared.verdict.Verdict.TheVariants.{Good, Broken}
use Rattle.domain_methods.specs.Rules.{Rule, M01, M02, M03, M04, M05, M06, M07, M08, M09, M10, M11, M12, IsVerdict, breaks, is_of_another_kind, is_out_of_time, number_of, record_rules, rules, told, verdict_by, verdict_of, website_rules}

-- ---- some rules, and then others

good_step : (broken : Bool) (rule : Rule) (found whole rest : Option Rule) → told (cond broken (Some rule) found) ≡ Good → (told found ≡ Good → told whole ≡ told rest) → told (cond broken (Some rule) whole) ≡ told rest
good_step true rule found whole rest good next = absurd (cc)
good_step false rule found whole rest good next = next good

good_then : (test : Rule → Bool) (first others : List Rule) → told (find test first) ≡ Good → told (find test (first ++ others)) ≡ told (find test others)
good_then test [] others good = refl
good_then test (rule ∷ first) others good =
    good_step (test rule) rule (find test first) (find test (first ++ others)) (find test others) good (good_then test first others)

broken_step : (broken : Bool) (rule : Rule) (found whole : Option Rule) (number : ℕ) → told (cond broken (Some rule) found) ≡ Broken number → (told found ≡ Broken number → told whole ≡ Broken number) → told (cond broken (Some rule) whole) ≡ Broken number
broken_step true rule found whole number is next = is
broken_step false rule found whole number is next = next is

broken_then : (test : Rule → Bool) (first others : List Rule) (number : ℕ) → told (find test first) ≡ Broken number → told (find test (first ++ others)) ≡ Broken number
broken_then test [] others number is = absurd (cc)
broken_then test (rule ∷ first) others number is =
    broken_step (test rule) rule (find test first) (find test (first ++ others)) number is (broken_then test first others number)

pub verdict_by-good : (first others : List Rule) (c : Challenge) (seen : Seen) (at : ℕ) → verdict_by first c seen at ≡ Good → verdict_by (first ++ others) c seen at ≡ verdict_by others c seen at
verdict_by-good first others c seen at good = good_then (λ rule. breaks rule c seen at) first others good

pub verdict_by-broken : (first others : List Rule) (c : Challenge) (seen : Seen) (at number : ℕ) → verdict_by first c seen at ≡ Broken number → verdict_by (first ++ others) c seen at ≡ Broken number
verdict_by-broken first others c seen at number is = broken_then (λ rule. breaks rule c seen at) first others number is

abbrev later_rules : List Rule
later_rules = record_rules ++ website_rules

-- of the right kind and in time
verdict_of-later : (c : Challenge) (seen : Seen) (at : ℕ) → is_of_another_kind c.method seen ≡ false → is_out_of_time c.made.0 at ≡ false → verdict_of c seen at ≡ verdict_by later_rules c seen at
verdict_of-later c seen at kind time =
    verdict_by-good (M01 ∷ M02 ∷ []) later_rules c seen at (ap₂ (λ a b. told (cond a (Some M01) (cond b (Some M02) None))) kind time)

pub verdict_of-records : (c : Challenge) (seen : Seen) (records : DnsSeen) (at : ℕ) → seen ≡ Dns records → is_of_another_kind c.method seen ≡ false → is_out_of_time c.made.0 at ≡ false → verdict_of c seen at ≡ verdict_by record_rules c (Dns records) at
verdict_of-records c seen records at is kind time = verdict_of-later c seen at kind time ∙ ap (λ s. verdict_by later_rules c s at) is

pub verdict_of-website : (c : Challenge) (seen : Seen) (website : WebSeen) (at : ℕ) → seen ≡ Web website → is_of_another_kind c.method seen ≡ false → is_out_of_time c.made.0 at ≡ false → verdict_of c seen at ≡ verdict_by website_rules c (Web website) at
verdict_of-website c seen website at is kind time = verdict_of-later c seen at kind time ∙ ap (λ s. verdict_by later_rules c s at) is

-- ---- what a verdict says

at_each : (P : Rule → Type 0) → AllByRecursion P rules → (rule : Rule) → P rule
at_each P all M01 = all.0
at_each P all M02 = all.1.0
at_each P all M03 = all.1.1.0
at_each P all M04 = all.1.1.1.0
at_each P all M05 = all.1.1.1.1.0
at_each P all M06 = all.1.1.1.1.1.0
at_each P all M07 = all.1.1.1.1.1.1.0
at_each P all M08 = all.1.1.1.1.1.1.1.0
at_each P all M09 = all.1.1.1.1.1.1.1.1.0
at_each P all M10 = all.1.1.1.1.1.1.1.1.1.0
at_each P all M11 = all.1.1.1.1.1.1.1.1.1.1.0
at_each P all M12 = all.1.1.1.1.1.1.1.1.1.1.1.0

kept_step : (test : Rule → Bool) (broken : Bool) (rule : Rule) (list : List Rule) → test rule ≡ broken → told (cond broken (Some rule) (find test list)) ≡ Good → (told (find test list) ≡ Good → AllByRecursion (λ other. test other ≡ false) list) → AllByRecursion (λ other. test other ≡ false) (rule ∷ list)
kept_step test true rule list is good next = absurd (cc)
kept_step test false rule list is good next = (is, next good)

kept_all : (test : Rule → Bool) (list : List Rule) → told (find test list) ≡ Good → AllByRecursion (λ rule. test rule ≡ false) list
kept_all test [] good = tt
kept_all test (rule ∷ list) good = kept_step test (test rule) rule list refl good (kept_all test list)

-- the numbers of a list of rules rise
abbrev no_less : Rule → Rule → Bool
no_less rule other = nat_le (number_of rule) (number_of other)

abbrev rises : List Rule → Bool
rises [] = true
rises (rule ∷ list) = list_all (no_less rule) list && rises list

-- a rule that is kept, or that does not come before
abbrev KeptBefore : (Rule → Bool) → Rule → Rule → Type 0
KeptBefore test rule other = (test other ≡ false) ⊎ (number_of rule ≤ number_of other)

le-nat_le : (a b : ℕ) → nat_le a b ≡ true → a ≤ b
le-nat_le a b h = grind (arith, nat_tests)

all_after : (test : Rule → Bool) (rule : Rule) (list : List Rule) → list_all (no_less rule) list ≡ true → AllByRecursion (KeptBefore test rule) list
all_after test rule [] after = tt
all_after test rule (other ∷ list) after =
    let parts = and_parts _ _ after in
    (inr (le-nat_le (number_of rule) (number_of other) parts.0), all_after test rule list parts.1)

-- the first rule of a list that is broken
record IsFirst (test : Rule → Bool) (list : List Rule) (number : ℕ) : Type 0 where
  rule : Rule
  same : number ≡ number_of rule
  broken : test rule ≡ true
  before : AllByRecursion (KeptBefore test rule) list

first_step : (test : Rule → Bool) (broken : Bool) (rule : Rule) (list : List Rule) (number : ℕ) → test rule ≡ broken → rises (rule ∷ list) ≡ true → told (cond broken (Some rule) (find test list)) ≡ Broken number → (rises list ≡ true → told (find test list) ≡ Broken number → IsFirst test list number) → IsFirst test (rule ∷ list) number
first_step test true rule list number is rising found next =
    record { rule = rule; same = cc; broken = is; before = (inr (omega arith), all_after test rule list (and_parts _ _ rising).0) }
first_step test false rule list number is rising found next =
    let later = next (and_parts _ _ rising).1 found in
    record { rule = later.rule; same = later.same; broken = later.broken; before = (inl is, later.before) }

first_of : (test : Rule → Bool) (list : List Rule) (number : ℕ) → rises list ≡ true → told (find test list) ≡ Broken number → IsFirst test list number
first_of test [] number rising found = absurd (cc)
first_of test (rule ∷ list) number rising found = first_step test (test rule) rule list number refl rising found (first_of test list number)

kept_below : (test : Rule → Bool) (rule other : Rule) → KeptBefore test rule other → number_of other < number_of rule → test other ≡ false
kept_below test rule other (inl kept) below = kept
kept_below test rule other (inr le) below = absurd (omega arith)

IsVerdict-by : (c : Challenge) (seen : Seen) (at : ℕ) (verdict : Verdict) → verdict_of c seen at ≡ verdict → IsVerdict c seen at verdict
IsVerdict-by c seen at Good is =
    let test : Rule → Bool = λ rule. breaks rule c seen at in
    at_each (λ rule. test rule ≡ false) (kept_all test rules is)
IsVerdict-by c seen at (Broken number) is =
    let test : Rule → Bool = λ rule. breaks rule c seen at in
    let first = first_of test rules number refl is in (
      first.rule,
      first.same,
      record {
        broken = first.broken;
        least = λ other below. kept_below test first.rule other (at_each (KeptBefore test first.rule) first.before other) below;
      },
    )

pub IsVerdict-is : (c : Challenge) (seen : Seen) (at : ℕ) (verdict : Verdict) → verdict ≡ verdict_of c seen at → IsVerdict c seen at verdict
IsVerdict-is c seen at verdict is = IsVerdict-by c seen at verdict (sym is)
