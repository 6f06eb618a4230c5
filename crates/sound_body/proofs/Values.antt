-- The rules on the values of extensions.
use Rattle.std.proofs.Common.{◌≡◌, ℕ, ◌≤◌, Bool, true, false, not, IsTrue, List, [], ◌∷◌, ◌++◌, length, bytes_eq, Some, refl, ap, ◌∙◌, arith}
use Rattle.std.proofs.lemmas.Bool.{and_parts}
use Rattle.std.proofs.lemmas.List.{append-nil}
use Rattle.std.specs.List.{AllByRecursion}
use Rattle.gate_base.specs.declared.name.Address.TheVariants.{V4, V6}
use Rattle.gate_base.specs.declared.name.Target.{Target}
use Rattle.gate_base.specs.declared.name.Target.TheVariants.{Dns, Ip}
use Rattle.gate_base.specs.declared.profile.KeyKind.{KeyKind}
use Rattle.gate_base.specs.declared.profile.KeyKind.TheVariants.{Rsa, P256, P384, P521}
use Rattle.der_text.specs.Tree.{length_octets, element, spelling}
use Rattle.der_text.specs.Parts.{are_none}
use Rattle.tbs_build.specs.Extension.{Extension as Built, authority_key_identifier, key_usage, extended_key_usage, subject_alt_name, certificate_policies, crl_distribution_points, authority_info_access}
use Rattle.tbs_build.specs.Names.{general_names}
use Rattle.cert_fields.specs.Profile.{is_address}
use Rattle.profile_lint.specs.Contents.{Judged}
use Rattle.profile_lint.specs.Names.{is_general_name, bool_eq}
use Rattle.profile_lint.specs.Parts.{all_parts}
use Rattle.profile_lint.specs.Rules as rules
use Rattle.sound_body.specs.Rules.{HasItsOctets}
use Rattle.sound_body.specs.Said.{extension_read}
use Rattle.sound_body.proofs.Keys.{same_bytes}

-- an extension with its value, as the rules see them
abbrev pub judged_of : Built → Judged
judged_of e = record { extension = Some (extension_read e); tree = Some e.value }

-- ---- names

are_general_names : (targets : List Target) → AllByRecursion HasItsOctets targets
    → all_parts is_general_name (general_names targets) ≡ true
are_general_names [] octets = refl
are_general_names (Dns name ∷ targets) octets = are_general_names targets octets.1
are_general_names (Ip (V4 octets) ∷ targets) sizes = rw sizes.0 (are_general_names targets sizes.1)
are_general_names (Ip (V6 octets) ∷ targets) sizes = rw sizes.0 (are_general_names targets sizes.1)

some_names : (targets : List Target) → 1 ≤ length targets → are_none (general_names targets) ≡ false
some_names [] some = absurd (omega (arith, some))
some_names (target ∷ targets) some = refl

pub names_are_kept : (common : Bool) (targets : List Target) → 1 ≤ length targets
    → AllByRecursion HasItsOctets targets → rules.names_are_bad (judged_of (subject_alt_name common targets)) ≡ false
names_are_kept common targets some octets = rw (some_names targets some, are_general_names targets octets) refl

pub critical_is_kept : (common : Bool) → not (bool_eq (not common) (not common)) ≡ false
critical_is_kept true = refl
critical_is_kept false = refl

-- ---- usage

pub usage_is_kept : (kind : KeyKind) → rules.usage_is_bad (judged_of (key_usage kind)) ≡ false
usage_is_kept kind = refl

pub usage_is_right : (kind : KeyKind)
    → rules.usage_is_wrong (Some kind) (Some (extension_read (key_usage kind))) ≡ false
unfolding length_octets
usage_is_right Rsa = refl
usage_is_right P256 = refl
usage_is_right P384 = refl
usage_is_right P521 = refl

pub purposes_are_kept : rules.purposes_are_bad (judged_of extended_key_usage) ≡ false
purposes_are_kept = refl

pub purposes_are_right : rules.purposes_are_wrong (judged_of extended_key_usage) ≡ false
purposes_are_right = refl

pub policies_are_kept : rules.policies_are_bad (judged_of certificate_policies) ≡ false
policies_are_kept = refl

-- ---- the issuer's key and addresses

key_identifier_spelled : (key_id : List ℕ) → length key_id ≡ 20
    → spelling (authority_key_identifier key_id).value ≡ rules.key_identifier key_id
unfolding length_octets
key_identifier_spelled key_id size =
    let inner : element 0x80 key_id ++ [] ≡ 0x80 ∷ 0x14 ∷ key_id =
    append-nil (element 0x80 key_id) ∙ rw size refl in
    let outer : length (0x80 ∷ 0x14 ∷ key_id) ≡ 22 = omega (arith, size) in
    ap (element 48) inner ∙ rw outer refl

pub key_identifier_is_kept : (key_id : List ℕ) → length key_id ≡ 20
    → not (rules.has_value (rules.key_identifier key_id) (Some (extension_read (authority_key_identifier key_id))))
    ≡ false
key_identifier_is_kept key_id size =
    ap (λ (value : List ℕ). not (bytes_eq value (rules.key_identifier key_id))) (key_identifier_spelled key_id size)
    ∙ ap not (same_bytes (rules.key_identifier key_id))

is_http : (address : List ℕ) → IsTrue (is_address address) → rules.is_http address ≡ true
is_http address is = (and_parts _ _ (and_parts _ _ is).0).1

pub access_is_kept : (address : List ℕ) → IsTrue (is_address address)
    → rules.access_is_bad (judged_of (authority_info_access address)) ≡ false
access_is_kept address is = rw (is_http address is) refl

pub points_are_kept : (address : List ℕ) → IsTrue (is_address address)
    → rules.points_are_bad (judged_of (crl_distribution_points address)) ≡ false
points_are_kept address is = rw (is_http address is) refl
