-- What a certificate is planned to say, without where the plan's parts lie in memory.
use Rattle.std.specs.Prelude.{◌≡◌, ℕ, ◌<◌, ◌≤◌, Bool, true, false, IsTrue, List, [], ◌∷◌, length}
use Rattle.std.specs.List.{AllByRecursion}
use Rattle.gate_base.specs.declared.name.Target.{Target}
use Rattle.gate_base.specs.declared.name.Target.TheVariants.{Dns, Ip}
use Rattle.gate_base.specs.declared.profile.KeyKind.{KeyKind}
use Rattle.gate_base.specs.declared.profile.Profile.{Profile}
use Rattle.public_key.specs.Key.{IsKeyOf}
use Rattle.tbs_build.specs.declared.plan.Plan.{Plan as PlanValue}
use Rattle.tbs_build.specs.Names.{IsShort}
use Rattle.cert_fields.specs.Profile.{IsSoundProfile}

-- moments are in seconds since 1970
pub record Plan : Type 0 where
  pub serial : List ℕ
  pub not_before : ℕ
  pub not_after : ℕ
  pub spki : List ℕ
  pub kind : KeyKind
  pub targets : List Target
  pub common : Bool
  pub profile : Profile

abbrev pub plan_of : PlanValue → Plan
plan_of p = record {
  serial = p.serial.now.0;
  not_before = p.not_before.0;
  not_after = p.not_after.0;
  spki = p.spki.now;
  kind = p.kind;
  targets = p.targets.now;
  common = p.common;
  profile = p.profile.now;
}

-- The first byte is 40 to 7f: the number is positive (RFC 5280, section 4.1.2.2; BR 2.1.5, section 7.1.2.7), and none of its bytes can be left
-- out.
abbrev pub IsSerial : List ℕ → Type 0
IsSerial [] = ⊥
IsSerial (first ∷ rest) = (64 ≤ first) × (first < 128)

abbrev pub is_name : Target → Bool
is_name (Dns name) = true
is_name (Ip address) = false

abbrev pub begins_with_name : List Target → Bool
begins_with_name [] = false
begins_with_name (first ∷ rest) = is_name first

-- The plan can be met: its serial number has 16 bytes, its times are in order and end with the year 9999, its key is
-- good and of the kind that it tells, it has 1 to 255 targets, and a commonName can be made of the first where one is
-- wanted.
pub record IsSound (plan : Plan) : Type 0 where
  pub serial : IsSerial plan.serial
  pub serial_size : length plan.serial ≡ 16
  pub times : plan.not_before ≤ plan.not_after
  pub last_time : plan.not_after ≤ 253402300799
  pub key : IsKeyOf plan.spki plan.kind
  pub key_size : length plan.spki ≤ 16384
  pub some : 1 ≤ length plan.targets
  pub count : length plan.targets ≤ 255
  pub short : AllByRecursion IsShort plan.targets
  pub named : IsTrue plan.common → IsTrue (begins_with_name plan.targets)
  pub profile : IsSoundProfile plan.profile
