-- The extensions of a sound plan are in the form, and so is the value of each.
use Rattle.std.proofs.Common.{◌≡◌, ℕ, suc, ◌+◌, ◌*◌, ◌<◌, ◌≤◌, ◌^◌, IsTrue, Bool, true, false, List, [], ◌∷◌, length, refl, arith}
use Rattle.std.specs.List.{AllByRecursion}
use Rattle.gate_base.specs.declared.name.Address.TheVariants.{V4, V6}
use Rattle.gate_base.specs.declared.name.Target.{Target}
use Rattle.gate_base.specs.declared.name.Target.TheVariants.{Dns, Ip}
use Rattle.gate_base.specs.declared.profile.KeyKind.{KeyKind}
use Rattle.gate_base.specs.declared.profile.KeyKind.TheVariants.{Rsa, P256, P384, P521}
use Rattle.der_text.specs.Content.{keeps_rule, is_primitive_content}
use Rattle.der_text.specs.Tree.{primitive, Nodes, spelling, IsElement}
use Rattle.tbs_build.specs.Names.{general_name, general_names, IsShort}
use Rattle.tbs_build.specs.Plan.{Plan, IsSound}
use Rattle.tbs_build.specs.Extension.{Extension, extension_tree, with_critical, authority_key_identifier, key_usage, usage_bits, extended_key_usage, server_auth, subject_alt_name, certificate_policies, domain_validated, uri, crl_distribution_points, ca_issuers, authority_info_access, extensions_of, extension_trees, IsSpelled}
use Rattle.tbs_build.proofs.Plans.{address_is_short}
use Rattle.tbs_build.proofs.Good.{Good, AllGood, octet_string, sequence_tag, key_identifier, dns_name, uri_tag, ip_address, first_tag, good_element, good_primitive, good_constructed, none, and, only, at_most, all_at_most}

-- ---- names

name_good : (levels : ℕ) (target : Target) → IsShort target → Good (suc levels) 259 (general_name target)
name_good levels (Dns name) short = good_primitive levels 0x82 253 _ dns_name refl short (omega arith)
name_good levels (Ip (V4 octets)) short = good_primitive levels 0x87 253 _ ip_address refl short (omega arith)
name_good levels (Ip (V6 octets)) short = good_primitive levels 0x87 253 _ ip_address refl short (omega arith)

names_good : (levels : ℕ) (targets : List Target) → AllByRecursion IsShort targets
    → AllGood (suc levels) (259 * length targets) (general_names targets)
names_good levels [] short = none (suc levels)
names_good levels (target ∷ targets) short =
    all_at_most (and (name_good levels target short.0) (names_good levels targets short.1)) (omega arith)

-- ---- extensions

-- what is left to show of an extension whose value has at most so many bytes
record IsWritable (most : ℕ) (e : Extension) : Type 0 where
  value : Good 32 most e.value
  short : length e.identifier ≤ 8
  rule : IsTrue (keeps_rule 6 e.identifier)

identifier_is : (identifier : List ℕ) → length identifier ≤ 9 → IsTrue (keeps_rule 6 identifier)
    → IsElement 6 identifier
identifier_is identifier short rule = record { one_byte_tag = λ e. cc e; size = omega arith; rule = rule }

true_is : IsElement 1 (255 ∷ [])
unfolding keeps_rule is_primitive_content
true_is = record { one_byte_tag = λ e. cc e; size = omega arith; rule = refl }

critical_good : (levels most : ℕ) (critical : Bool) (others : Nodes) → AllGood (suc levels) most others
    → AllGood (suc levels) (7 + most) (with_critical critical others)
critical_good levels most true others good = and (good_element levels 1 1 (255 ∷ []) refl true_is (omega arith)) good
critical_good levels most false others good = all_at_most good (omega arith)

extension_good : (levels most : ℕ) (e : Extension) → most < 2 ^ 24 → IsWritable most e
    → Good (suc (suc levels)) (33 + most) (extension_tree e)
extension_good levels most e low is =
    let string = only (good_primitive levels 4 most (spelling e.value) octet_string refl is.value.size (omega arith)) in
    let flagged = critical_good levels (6 + most + 0) e.critical _ string in
    let named = and (good_element levels 6 8 e.identifier refl
    (identifier_is e.identifier (omega (arith, is.short)) is.rule) is.short) flagged in
    at_most (good_constructed (suc levels) 48 (27 + most) _ sequence_tag refl (omega arith)
    (all_at_most named (omega arith))) (omega arith)

-- ---- the seven

pub object_good : (identifier : List ℕ) → length identifier ≤ 9 → IsTrue (keeps_rule 6 identifier) → {levels : ℕ}
    → Good (suc levels) 15 (primitive 6 identifier)
object_good identifier short rule {levels} = good_element levels 6 9 identifier refl
    (identifier_is identifier short rule) short

key_identifier_is : (key_id : List ℕ) → length key_id ≡ 20 → IsWritable 32 (authority_key_identifier key_id)
unfolding keeps_rule is_primitive_content
key_identifier_is key_id size = record {
  value = good_constructed 31 48 26 _ sequence_tag refl (omega arith)
      (only (good_primitive 30 0x80 20 key_id key_identifier refl (omega arith) (omega arith)));
  short = omega arith;
  rule = refl;
}

usage_is : (kind : KeyKind) → IsElement 3 (usage_bits kind)
unfolding keeps_rule is_primitive_content
usage_is Rsa = record { one_byte_tag = λ e. cc e; size = omega arith; rule = refl }
usage_is P256 = record { one_byte_tag = λ e. cc e; size = omega arith; rule = refl }
usage_is P384 = record { one_byte_tag = λ e. cc e; size = omega arith; rule = refl }
usage_is P521 = record { one_byte_tag = λ e. cc e; size = omega arith; rule = refl }

usage_is_short : (kind : KeyKind) → length (usage_bits kind) ≤ 2
usage_is_short Rsa = omega arith
usage_is_short P256 = omega arith
usage_is_short P384 = omega arith
usage_is_short P521 = omega arith

key_usage_is : (kind : KeyKind) → IsWritable 8 (key_usage kind)
unfolding keeps_rule is_primitive_content
key_usage_is kind = record {
  value = good_element 31 3 2 (usage_bits kind) refl (usage_is kind) (usage_is_short kind);
  short = omega arith;
  rule = refl;
}

extended_key_usage_is : IsWritable 21 extended_key_usage
unfolding keeps_rule is_primitive_content
extended_key_usage_is = record {
  value = good_constructed 31 48 15 _ sequence_tag refl (omega arith)
      (only (object_good server_auth (omega arith) refl));
  short = omega arith;
  rule = refl;
}

alt_name_is : (common : Bool) (targets : List Target) (most : ℕ) → length targets ≤ most → most ≤ 255
    → AllByRecursion IsShort targets → IsWritable (6 + 259 * most) (subject_alt_name common targets)
unfolding keeps_rule is_primitive_content
alt_name_is common targets most count low short = record {
  value = good_constructed 31 48 (259 * most) _ sequence_tag refl (omega arith)
      (all_at_most (names_good 30 targets short) (omega arith));
  short = omega arith;
  rule = refl;
}

policies_are : IsWritable 27 certificate_policies
unfolding keeps_rule is_primitive_content
policies_are = record {
  value = good_constructed 31 48 21 _ sequence_tag refl (omega arith)
      (only (good_constructed 30 48 15 _ sequence_tag refl (omega arith)
      (only (object_good domain_validated (omega arith) refl))));
  short = omega arith;
  rule = refl;
}

uri_good : (levels : ℕ) (address : List ℕ) → length address ≤ 512 → Good (suc levels) 518 (uri address)
uri_good levels address short = good_primitive levels 0x86 512 address uri_tag refl short (omega arith)

points_are : (address : List ℕ) → length address ≤ 512 → IsWritable 542 (crl_distribution_points address)
unfolding keeps_rule is_primitive_content
points_are address short =
    let full_name = good_constructed 28 0xa0 518 _ first_tag refl (omega arith) (only (uri_good 27 address short)) in
    let point = good_constructed 29 0xa0 524 _ first_tag refl (omega arith) (only full_name) in
    record {
      value = good_constructed 31 48 536 _ sequence_tag refl (omega arith)
          (only (good_constructed 30 48 530 _ sequence_tag refl (omega arith) (only point)));
      short = omega arith;
      rule = refl;
    }

access_is : (address : List ℕ) → length address ≤ 512 → IsWritable 545 (authority_info_access address)
unfolding keeps_rule is_primitive_content
access_is address short =
    let description = and (object_good ca_issuers (omega arith) refl) (only (uri_good 29 address short)) in
    record {
      value = good_constructed 31 48 539 _ sequence_tag refl (omega arith)
          (only (good_constructed 30 48 533 _ sequence_tag refl (omega arith) description));
      short = omega arith;
      rule = refl;
    }

-- ---- those of a plan

spelled : {most : ℕ} {e : Extension} → IsWritable most e → IsSpelled e
spelled is = record { spelled = refl; form = is.value.form }

pub all_spelled : (plan : Plan) → IsSound plan → AllByRecursion IsSpelled (extensions_of plan)
all_spelled plan sound = (
  spelled (key_identifier_is plan.profile.key_id.0 sound.profile.key_id),
  (
    spelled (key_usage_is plan.kind),
    (
      spelled extended_key_usage_is,
      (
        spelled (alt_name_is plan.common plan.targets 255 sound.count (omega arith) sound.short),
        (
          spelled policies_are,
          (
            spelled (points_are plan.profile.crl (address_is_short _ sound.profile.crl)),
            (
              spelled (access_is plan.profile.aia (address_is_short _ sound.profile.aia)),
              tt,
            ),
          ),
        ),
      ),
    ),
  ),
)

-- of at most so many targets
pub all_good : (levels most : ℕ) (plan : Plan) → IsSound plan → length plan.targets ≤ most → most ≤ 255
    → AllGood (suc (suc levels)) (1412 + 259 * most) (extension_trees (extensions_of plan))
all_good levels most plan sound count low =
    all_at_most (and (extension_good levels 32 _ (omega arith) (key_identifier_is plan.profile.key_id.0 sound.profile.key_id))
    (and (extension_good levels 8 _ (omega arith) (key_usage_is plan.kind))
    (and (extension_good levels 21 _ (omega arith) extended_key_usage_is)
    (and (extension_good levels (6 + 259 * most) _ (omega arith)
    (alt_name_is plan.common plan.targets most count low sound.short))
    (and (extension_good levels 27 _ (omega arith) policies_are)
    (and (extension_good levels 542 _ (omega arith)
    (points_are plan.profile.crl (address_is_short _ sound.profile.crl)))
    (only (extension_good levels 545 _ (omega arith)
    (access_is plan.profile.aia (address_is_short _ sound.profile.aia)))))))))) (omega arith)
