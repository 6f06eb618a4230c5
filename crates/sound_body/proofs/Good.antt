-- The three rules that the body of a plan with good targets can break.
use Rattle.std.proofs.Common.{◌≡◌, ◌↔◌, inl, inr, ℕ, ◌+◌, ◌-◌, ◌*◌, ◌<◌, ◌≤◌, pos, Bool, true, false, is_none, List, [], ◌∷◌, Option, Some, None, refl, sym, ap, ap₂, subst, ◌∙◌, arith}
use Rattle.std.specs.List.{AllByRecursion, list_any}
use Rattle.gate_base.specs.Tables.{row_at}
use Rattle.gate_base.specs.declared.moment.Moment.{Moment}
use Rattle.gate_base.specs.declared.name.Target.{Target}
use Rattle.gate_base.specs.declared.name.Target.TheVariants.{Dns, Ip}
use Rattle.gate_base.specs.declared.profile.Profile.{Profile}
use Rattle.names_core.specs.Reserved as addresses
use Rattle.names_core.specs.Suffix.{base_len}
use Rattle.names_core.specs.declared.rule.Rule.{Rule}
use Rattle.tbs_build.specs.Body.{body_of}
use Rattle.tbs_build.specs.Names.{general_names}
use Rattle.tbs_build.specs.Plan.{Plan, IsSound}
use Rattle.profile_lint.specs.Contents.{Contents}
use Rattle.profile_lint.specs.Lint.{Has, HasBroken, IsBroken, IsLint, IsListOf, head_rows, time_rows, subject_rows, key_rows, name_rows, usage_rows, issuer_rows, rows}
use Rattle.profile_lint.specs.Names.{targets_of, has_no_base, is_reserved}
use Rattle.profile_lint.specs.Parts.{shown}
use Rattle.profile_lint.specs.Rules as rules
use Rattle.sound_body.specs.Good.{HasGoodTargets, IsTooLong, HasNoBase, IsReserved, OneOf, Breaks, HasBase, IsUnreserved, IsClean}
use Rattle.sound_body.proofs.Contents.{AreOfPlan}
use Rattle.sound_body.proofs.Lists.{kept}
use Rattle.sound_body.proofs.Names.{have_their_octets, targets_are_shown, names_are_good, names_are_few, common_name_is_kept}
use Rattle.sound_body.proofs.Rules.{MayBreak, Known, contents_are, broken_by_a_sound_body}

-- ---- a test of each target

module _ {test : Target → Bool} {holds : Target → Type 0} (exact : (target : Target) → test target ≡ true ↔ holds target)
  where
    one_by : (target : Target) (others : List Target) (here : Bool) → test target ≡ here
        → (list_any test others ≡ true → OneOf holds others) → list_any test (target ∷ others) ≡ true
        → OneOf holds (target ∷ others)
    one_by target others true e later is = inl ((exact target).0 e)
    one_by target others false e later is = inr (later (rw e at is))

    one_of : (targets : List Target) → list_any test targets ≡ true → OneOf holds targets
    one_of [] is = absurd (cc is)
    one_of (target ∷ others) is = one_by target others (test target) refl (one_of others) is

    any_by : (target : Target) (others : List Target) (here : Bool) → test target ≡ here
        → list_any test others ≡ true → list_any test (target ∷ others) ≡ true
    any_by target others true e later = rw e refl
    any_by target others false e later = rw e later

    any_of : (targets : List Target) → OneOf holds targets → list_any test targets ≡ true
    any_of [] one = absurd one
    any_of (target ∷ others) (inl here) = rw ((exact target).1 here) refl
    any_of (target ∷ others) (inr there) = any_by target others (test target) refl (any_of others there)

none_exact : (found : Option ℕ) → is_none found ≡ true ↔ (found ≡ None)
none_exact None = (λ e. refl, λ e. refl)
none_exact (Some count) = (λ e. absurd (cc e), λ e. absurd (cc e))

no_base_exact : (suffixes : List Rule) (target : Target) → has_no_base suffixes target ≡ true ↔ HasNoBase suffixes target
no_base_exact suffixes (Dns name) = none_exact (base_len suffixes name.labels)
no_base_exact suffixes (Ip address) = (λ e. absurd (cc e), λ e. absurd e)

reserved_exact : (target : Target) → is_reserved target ≡ true ↔ IsReserved target
reserved_exact (Dns name) = (λ e. absurd (cc e), λ e. absurd e)
reserved_exact (Ip address) = (λ e. e, λ e. e)

-- ---- the days

lasts_exact : (days begins ends : ℕ) → begins ≤ ends
    → rules.lasts_too_long days (Some (pos begins)) (Some (pos ends)) ≡ true ↔ (days * 86400 < ends - begins + 1)
lasts_exact days begins ends order = (λ e. grind (arith, order, e), λ less. grind (arith, order, less))

-- ---- the three rows

module _ (c : Contents) (profile : Profile) (suffixes : List Rule) (moment : Moment) where
  day_row : rules.lasts_too_long (row_at moment.0).validity c.begins c.ends ≡ true
      → HasBroken (rows c profile suffixes moment) 7
  unfolding head_rows time_rows subject_rows key_rows name_rows usage_rows issuer_rows
  day_row broken = inr (inr (inr (inr (inr (inr (inl (refl, broken)))))))

  base_row : rules.a_name_has_no_base suffixes (targets_of (shown c.names.tree)) ≡ true
      → HasBroken (rows c profile suffixes moment) 21
  unfolding head_rows time_rows subject_rows key_rows name_rows usage_rows issuer_rows
  base_row broken =
      inr (inr (inr (inr (inr (inr (inr (inr (inr (inr (inr (inr (inr (inr (inr (inr (inr (inr (inr (inr
      (inl (refl, broken)))))))))))))))))))))

  address_row : rules.an_address_is_reserved (targets_of (shown c.names.tree)) ≡ true
      → HasBroken (rows c profile suffixes moment) 22
  unfolding head_rows time_rows subject_rows key_rows name_rows usage_rows issuer_rows
  address_row broken =
      inr (inr (inr (inr (inr (inr (inr (inr (inr (inr (inr (inr (inr (inr (inr (inr (inr (inr (inr (inr (inr
      (inl (refl, broken))))))))))))))))))))))

-- ---- the list

module _ (known : Known) (plan : Plan) (sound : IsSound plan) (good : HasGoodTargets plan) where
  shown_is : (c : Contents) → AreOfPlan plan c → shown c.names.tree ≡ general_names plan.targets
  shown_is c is = ap shown is.names.tree

  targets_are : (c : Contents) → AreOfPlan plan c → targets_of (shown c.names.tree) ≡ plan.targets
  targets_are c is = ap targets_of (shown_is c is) ∙ targets_are_shown plan.targets good.each

  days_are : (c : Contents) (moment : Moment) → AreOfPlan plan c
      → rules.lasts_too_long (row_at moment.0).validity c.begins c.ends ≡ true ↔ IsTooLong plan moment
  days_are c moment is =
      rw (is.begins, is.ends) (lasts_exact (row_at moment.0).validity plan.not_before plan.not_after sound.times)

  may_break : (suffixes : List Rule) (moment : Moment) (c : Contents) → AreOfPlan plan c
      → MayBreak (Breaks plan suffixes moment) c suffixes moment
  may_break suffixes moment c is = record {
    days = λ broken. inl (refl, (days_are c moment is).0 broken);
    common = kept (ap₂ rules.a_common_name_is_bad (targets_are c is) is.body.subject
        ∙ common_name_is_kept plan.common plan.targets good.each sound.named good.common);
    names = kept (ap rules.a_name_is_bad (shown_is c is) ∙ names_are_good plan.targets good.each good.distinct);
    bases = λ broken. inr (inl (
      refl,
      one_of (no_base_exact suffixes) plan.targets
          (subst (λ (targets : List Target). rules.a_name_has_no_base suffixes targets ≡ true) (targets_are c is) broken),
    ));
    addresses = λ broken. inr (inr (
      refl,
      one_of reserved_exact plan.targets
          (subst (λ (targets : List Target). rules.an_address_is_reserved targets ≡ true) (targets_are c is) broken),
    ));
    count = kept (ap rules.names_are_many (shown_is c is) ∙ names_are_few plan.targets good.few);
  }

  broken_row : (suffixes : List Rule) (moment : Moment) (rule : ℕ) (c : Contents) → AreOfPlan plan c
      → Breaks plan suffixes moment rule → HasBroken (rows c plan.profile suffixes moment) rule
  broken_row suffixes moment rule c is (inl days) =
      subst (HasBroken (rows c plan.profile suffixes moment)) (sym days.0)
      (day_row c plan.profile suffixes moment ((days_are c moment is).1 days.1))
  broken_row suffixes moment rule c is (inr (inl bases)) =
      subst (HasBroken (rows c plan.profile suffixes moment)) (sym bases.0)
      (base_row c plan.profile suffixes moment (ap (rules.a_name_has_no_base suffixes) (targets_are c is)
      ∙ any_of (no_base_exact suffixes) plan.targets bases.1))
  broken_row suffixes moment rule c is (inr (inr reserved)) =
      subst (HasBroken (rows c plan.profile suffixes moment)) (sym reserved.0)
      (address_row c plan.profile suffixes moment (ap rules.an_address_is_reserved (targets_are c is)
      ∙ any_of reserved_exact plan.targets reserved.1))

  broken_rule : (suffixes : List Rule) (moment : Moment) (list : List ℕ) (rule : ℕ)
      → IsListOf (body_of plan) plan.profile suffixes moment list → Breaks plan suffixes moment rule
      → IsBroken rule (body_of plan) plan.profile suffixes moment
  broken_rule suffixes moment list rule (inl shapeless) breaks =
      let body = known.shape plan sound in
      absurd (shapeless.0 body.0 body.1)
  broken_rule suffixes moment list rule (inr judged) breaks =
      inr (
        judged.0,
        judged.1,
        broken_row suffixes moment rule judged.0 (contents_are known plan sound judged.0 judged.1) breaks,
      )

  pub list_is_exact : (suffixes : List Rule) (moment : Moment) (list : List ℕ)
      → IsListOf (body_of plan) plan.profile suffixes moment list
      → IsLint (body_of plan) plan.profile suffixes moment list
      → (rule : ℕ) → Has list rule ↔ Breaks plan suffixes moment rule
  list_is_exact suffixes moment list judged lint rule = (
    λ has. broken_by_a_sound_body known plan sound (Breaks plan suffixes moment) suffixes moment rule (have_their_octets plan.targets good.each)
        (may_break suffixes moment) ((lint.exact rule).0 has),
    λ breaks. (lint.exact rule).1 (broken_rule suffixes moment list rule judged breaks),
  )

-- ---- no rule

all_but : {holds other : Target → Type 0} → ((target : Target) → ¬ holds target → other target)
    → (targets : List Target) → ¬ OneOf holds targets → AllByRecursion other targets
all_but each [] none = tt
all_but each (target ∷ others) none =
    (each target (λ is. none (inl is)), all_but each others (λ one. none (inr one)))

none_but : {holds other : Target → Type 0} → ((target : Target) → other target → ¬ holds target)
    → (targets : List Target) → AllByRecursion other targets → ¬ OneOf holds targets
none_but each [] all one = absurd one
none_but each (target ∷ others) all (inl is) = each target all.0 is
none_but each (target ∷ others) all (inr one) = none_but each others all.1 one

found_or_not : (found : Option ℕ) → ¬ (found ≡ None) → (count : ℕ) × (found ≡ Some count)
found_or_not None differs = absurd (differs refl)
found_or_not (Some count) differs = (count, refl)

has_base : (suffixes : List Rule) (target : Target) → ¬ HasNoBase suffixes target → HasBase suffixes target
has_base suffixes (Dns name) has = found_or_not (base_len suffixes name.labels) has
has_base suffixes (Ip address) has = tt

based : (suffixes : List Rule) (target : Target) → HasBase suffixes target → ¬ HasNoBase suffixes target
based suffixes (Dns name) has none = absurd (cc (has.1, none))
based suffixes (Ip address) has none = absurd none

not_true : (is : Bool) → ¬ (is ≡ true) → is ≡ false
not_true true differs = absurd (differs refl)
not_true false differs = refl

is_unreserved : (target : Target) → ¬ IsReserved target → IsUnreserved target
is_unreserved (Dns name) is = tt
is_unreserved (Ip address) is = not_true (addresses.is_reserved address) is

unreserved : (target : Target) → IsUnreserved target → ¬ IsReserved target
unreserved (Dns name) is reserved = absurd reserved
unreserved (Ip address) is reserved = absurd (cc (is, reserved))

within : (seconds allowed : ℕ) → ¬ (allowed < seconds) → seconds ≤ allowed
within seconds allowed differs = grind (arith, differs)

breaks_none : (plan : Plan) (suffixes : List Rule) (moment : Moment) (rule : ℕ) → IsClean plan suffixes moment
    → ¬ Breaks plan suffixes moment rule
breaks_none plan suffixes moment rule clean (inl days) = absurd (omega (arith, clean.days, days.1))
breaks_none plan suffixes moment rule clean (inr (inl bases)) =
    none_but (based suffixes) plan.targets clean.bases bases.1
breaks_none plan suffixes moment rule clean (inr (inr reserved)) =
    none_but unreserved plan.targets clean.addresses reserved.1

no_rules : (list : List ℕ) → ((rule : ℕ) → ¬ Has list rule) → list ≡ []
no_rules [] none = refl
no_rules (rule ∷ rules) none = absurd (none rule (inl refl))

has_none : (list : List ℕ) (rule : ℕ) → list ≡ [] → ¬ Has list rule
has_none list rule empty has = absurd (rw empty at has)

pub empty_is_clean : (plan : Plan) (suffixes : List Rule) (moment : Moment) (list : List ℕ)
    → ((rule : ℕ) → Has list rule ↔ Breaks plan suffixes moment rule)
    → (list ≡ []) ↔ IsClean plan suffixes moment
empty_is_clean plan suffixes moment list exact = (
  λ empty. record {
    days = within _ _ (λ days. has_none list 7 empty ((exact 7).1 (inl (refl, days))));
    bases = all_but (has_base suffixes) plan.targets
        (λ one. has_none list 21 empty ((exact 21).1 (inr (inl (refl, one)))));
    addresses = all_but is_unreserved plan.targets
        (λ one. has_none list 22 empty ((exact 22).1 (inr (inr (refl, one)))));
  },
  λ clean. no_rules list (λ rule has. breaks_none plan suffixes moment rule clean ((exact rule).0 has)),
)
