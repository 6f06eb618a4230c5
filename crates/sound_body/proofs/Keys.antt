-- The rules on the serial number, the algorithms, the times, the subject and the key.
use Rattle.std.proofs.Common.{◌≡◌, ℕ, ◌≤◌, pos, int_lt, Bool, true, false, not, if◌then◌else◌, IsTrue, List, [], ◌∷◌, length, bytes_eq, Option, Some, refl, ap, ◌∙◌, arith}
use Rattle.std.proofs.lemmas.Bool.{and_parts}
use Rattle.std.proofs.lemmas.Slice.Eq.{bytes_eq-Decides}
use Rattle.gate_base.specs.declared.profile.KeyKind.{KeyKind}
use Rattle.gate_base.specs.declared.profile.KeyKind.TheVariants.{Rsa, P256, P384, P521}
use Rattle.gate_base.specs.declared.profile.SigAlg.{SigAlg}
use Rattle.gate_base.specs.declared.profile.SigAlg.TheVariants.{RsaSha256, EcdsaSha256, EcdsaSha384}
use Rattle.der_text.specs.Tree.{Node}
use Rattle.public_key.specs.Key.{rsa_tree, is_positive, is_modulus, is_exponent, AreBitsOf, kind_of, algorithm_bytes as key_algorithm_bytes}
use Rattle.tbs_build.specs.Certificate.{algorithm_bytes}
use Rattle.tbs_build.specs.Plan.{IsSerial}
use Rattle.profile_lint.specs.Identifiers as identifiers
use Rattle.profile_lint.specs.Contents.{IsReading}
use Rattle.profile_lint.specs.Rules as rules
use Rattle.sound_body.specs.Said.{common_name_read}

pub same_bytes : (bytes : List ℕ) → bytes_eq bytes bytes ≡ true
same_bytes bytes = (bytes_eq-Decides bytes bytes).1 refl

pub serial_is_kept : (serial : List ℕ) → IsSerial serial → length serial ≡ 16 → rules.serial_is_bad serial ≡ false
serial_is_kept [] is size = absurd is
serial_is_kept (first ∷ rest) is size = grind (arith, is.0, is.1, size)

pub algorithm_is_kept : (alg : SigAlg)
    → not (bytes_eq (algorithm_bytes alg) (identifiers.signature_algorithm alg)) ≡ false
algorithm_is_kept RsaSha256 = refl
algorithm_is_kept EcdsaSha256 = refl
algorithm_is_kept EcdsaSha384 = refl

pub order_is_kept : (begins ends : ℕ) → begins ≤ ends → int_lt (pos ends) (pos begins) ≡ false
order_is_kept begins ends order = grind (arith, order)

pub attributes_are_kept : (common : Bool) (text : List ℕ)
    → rules.an_attribute_is_bad (if common then common_name_read text ∷ [] else []) ≡ false
attributes_are_kept true text = refl
attributes_are_kept false text = refl

pub country_is_kept : (common : Bool) (text : List ℕ)
    → rules.a_country_is_bad (if common then common_name_read text ∷ [] else []) ≡ false
country_is_kept true text = refl
country_is_kept false text = refl

-- ---- the key

pub kind_is_named : (kind : KeyKind) → kind_of (key_algorithm_bytes kind) ≡ Some kind
kind_is_named Rsa = refl
kind_is_named P256 = refl
kind_is_named P384 = refl
kind_is_named P521 = refl

modulus_is_good : (modulus exponent : List ℕ) → IsTrue (is_modulus modulus) → IsTrue (is_exponent exponent)
    → not (rules.modulus_is_good (Some (modulus, exponent))) ≡ false
modulus_is_good modulus exponent good also =
    let positive : IsTrue (is_positive exponent) = (and_parts _ _ (and_parts _ _ (and_parts _ _ also).0).0).0 in
    rw (good, positive) refl

pub modulus_is_kept : (kind : KeyKind) (bits : List ℕ) (key : Option Node) → AreBitsOf kind bits → IsReading bits key
    → rules.modulus_is_bad (Some kind) key ≡ false
modulus_is_kept Rsa bits key good read =
    let found : key ≡ Some (rsa_tree good.modulus good.exponent) = (read _).0 good.spelled in
    ap (rules.modulus_is_bad (Some Rsa)) found
    ∙ modulus_is_good good.modulus good.exponent good.good_modulus good.good_exponent
modulus_is_kept P256 bits key good read = refl
modulus_is_kept P384 bits key good read = refl
modulus_is_kept P521 bits key good read = refl

pub exponent_is_kept : (kind : KeyKind) (bits : List ℕ) (key : Option Node) → AreBitsOf kind bits → IsReading bits key
    → rules.exponent_is_bad (Some kind) key ≡ false
exponent_is_kept Rsa bits key good read =
    let found : key ≡ Some (rsa_tree good.modulus good.exponent) = (read _).0 good.spelled in
    ap (rules.exponent_is_bad (Some Rsa)) found ∙ ap not good.good_exponent
exponent_is_kept P256 bits key good read = refl
exponent_is_kept P384 bits key good read = refl
exponent_is_kept P521 bits key good read = refl

pub point_is_kept : (kind : KeyKind) (bits : List ℕ) → AreBitsOf kind bits
    → rules.point_is_bad (Some kind) (0 ∷ bits) ≡ false
point_is_kept Rsa bits good = refl
point_is_kept P256 bits good = ap not good
point_is_kept P384 bits good = ap not good
point_is_kept P521 bits good = ap not good
