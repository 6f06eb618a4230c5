-- Plans whose bodies break no rule of the profile but by their days, by a name without a base, or by a reserved address;
-- which of these three are broken, and which bodies break none. BR is the Baseline Requirements, version 2.1.5.
use Rattle.std.specs.Prelude.{◌≡◌, ◌≢◌, ◌⊎◌, ℕ, ◌+◌, ◌-◌, ◌*◌, ◌<◌, ◌≤◌, IsTrue, IsFalse, List, [], ◌∷◌, length, Some, None}
use Rattle.std.specs.List.{AllByRecursion}
use Rattle.gate_base.specs.Tables.{row_at}
use Rattle.gate_base.specs.declared.moment.Moment.{Moment}
use Rattle.gate_base.specs.declared.name.Target.{Target}
use Rattle.gate_base.specs.declared.name.Target.TheVariants.{Dns, Ip}
use Rattle.names_core.specs.declared.rule.Rule.{Rule}
use Rattle.names_core.specs.Reserved.{is_reserved}
use Rattle.names_core.specs.Suffix.{base_len}
use Rattle.tbs_build.specs.Body.{first_text}
use Rattle.tbs_build.specs.Names.{IsTarget}
use Rattle.tbs_build.specs.Plan.{Plan}

-- none of the targets is there twice
abbrev pub AreDistinct : List Target → Type 0
AreDistinct [] = Unit {0}
AreDistinct (target ∷ targets) = AllByRecursion (λ other. other ≢ target) targets × AreDistinct targets

-- At most 100 targets, which is this project's own limit, each such as an entry may hold, and none of them twice. The
-- text of the first has at most 64 bytes where it is the commonName (RFC 5280, appendix A.1, ub-common-name).
pub record HasGoodTargets (plan : Plan) : Type 0 where
  pub few : length plan.targets ≤ 100
  pub each : AllByRecursion IsTarget plan.targets
  pub distinct : AreDistinct plan.targets
  pub common : IsTrue plan.common → length (first_text plan.targets) ≤ 64

-- ---- what breaks a rule

-- L07: the seconds of the validity, its first and its last counted, are more than those of the days that are allowed at
-- the moment (BR 2.1.5, section 6.3.2)
abbrev pub IsTooLong : Plan → Moment → Type 0
IsTooLong plan moment = (row_at moment.0).validity * 86400 < plan.not_after - plan.not_before + 1

-- L21: a name that is itself a public suffix, or lies under none (BR 2.1.5, section 3.2.2.6)
abbrev pub HasNoBase : List Rule → Target → Type 0
HasNoBase suffixes (Dns name) = base_len suffixes name.labels ≡ None
HasNoBase suffixes (Ip address) = ⊥

-- L22: a reserved address (BR 2.1.5, section 7.1.2.7.12)
abbrev pub IsReserved : Target → Type 0
IsReserved (Dns name) = ⊥
IsReserved (Ip address) = IsTrue (is_reserved address)

-- it holds of one of the targets
abbrev pub OneOf : (Target → Type 0) → List Target → Type 0
OneOf holds [] = ⊥
OneOf holds (target ∷ targets) = holds target ⊎ OneOf holds targets

-- the rule of this number is broken by the plan's body at the moment
abbrev pub Breaks : Plan → List Rule → Moment → ℕ → Type 0
Breaks plan suffixes moment rule =
    ((rule ≡ 7) × IsTooLong plan moment)
    ⊎ (((rule ≡ 21) × OneOf (HasNoBase suffixes) plan.targets) ⊎ ((rule ≡ 22) × OneOf IsReserved plan.targets))

-- ---- what breaks none

abbrev pub HasBase : List Rule → Target → Type 0
HasBase suffixes (Dns name) = (count : ℕ) × (base_len suffixes name.labels ≡ Some count)
HasBase suffixes (Ip address) = Unit {0}

abbrev pub IsUnreserved : Target → Type 0
IsUnreserved (Dns name) = Unit {0}
IsUnreserved (Ip address) = IsFalse (is_reserved address)

-- the days are allowed at the moment, each name has a base, and no address is reserved
pub record IsClean (plan : Plan) (suffixes : List Rule) (moment : Moment) : Type 0 where
  pub days : plan.not_after - plan.not_before + 1 ≤ (row_at moment.0).validity * 86400
  pub bases : AllByRecursion (HasBase suffixes) plan.targets
  pub addresses : AllByRecursion IsUnreserved plan.targets
