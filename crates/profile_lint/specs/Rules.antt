-- The rules that a body may break, each by its number. A rule says when it is broken. RFC 5280 and the Baseline
-- Requirements (BR, version 2.1.5) are restated; where a rule is stricter or laxer, that is this project's own.
use Rattle.std.specs.Prelude.{ℕ, ◌*◌, ℤ, pos, ◌+ℤ◌, ◌-ℤ◌, int_lt, Bool, true, false, not, ◌&&◌, ◌||◌, ◌==◌, nat_lt, nat_le, nat_eq, List, [], ◌∷◌, length, codes, Option, Some, None, is_some, is_none}
use Rattle.std.specs.Char.{is_ascii_uppercase, is_ascii}
use Rattle.std.specs.List.{list_any, list_all, starts_with}
use Rattle.std.specs.Str.{bytes_eq}
use Rattle.gate_base.specs.declared.profile.Profile.{Profile}
use Rattle.gate_base.specs.declared.profile.KeyKind.{KeyKind}
use Rattle.gate_base.specs.declared.profile.KeyKind.TheVariants.{Rsa, P256, P384, P521}
use Rattle.gate_base.specs.declared.name.Target.{Target}
use Rattle.names_core.specs.declared.rule.Rule.{Rule}
use Rattle.der_text.specs.Tree.{Node, primitive, constructed, Nodes}
use Rattle.der_text.specs.Parts.{◌>>=◌, parts_with, primitive_at, constructed_at, are_none, at_end}
use Rattle.public_key.specs.Key.{is_positive, is_modulus, is_exponent, is_point, numbers_of, behind_zero}
use Rattle.tbs_shape.specs.Body.{Body, Primitive, Attribute, Extension}
use Rattle.profile_lint.specs.Identifiers as identifiers
use Rattle.profile_lint.specs.Parts.{any_part, all_parts, count_parts, has_twice, elements, shown}
use Rattle.profile_lint.specs.Contents.{Judged, or_empty}
use Rattle.profile_lint.specs.Names.{is_general_name, targets_of, is_bad_dns_name, bool_eq, target_eq, has_no_base, is_reserved, is_text_of}

-- ---- the front of a body

-- L01: the version is not 3, which is encoded as 2 (RFC 5280, section 4.1.2.1; BR 2.1.5, section 7.1.2.7)
abbrev pub version_is_bad : Option (List ℕ) → Bool
version_is_bad None = true
version_is_bad (Some content) = not (bytes_eq content (2 ∷ []))

-- L02: The serial number is not positive, or has more than 20 octets (RFC 5280, section 4.1.2.2; BR 2.1.5, section
-- 7.1.2.7). One of 20 octets has its sign in the first bit, so it is below 2 ^ 159.
abbrev pub serial_is_bad : List ℕ → Bool
serial_is_bad content = not (is_positive content && nat_le (length content) 20)

-- L03: the algorithm of the signature is not the profile's (RFC 5280, section 4.1.2.3; BR 2.1.5, section 7.1.3.2)
abbrev pub algorithm_is_bad : List ℕ → Profile → Bool
algorithm_is_bad algorithm profile = not (bytes_eq algorithm (identifiers.signature_algorithm profile.alg))

-- L04: the issuer is not the profile's, byte for byte (BR 2.1.5, section 7.1.4.1)
abbrev pub issuer_is_bad : List ℕ → Profile → Bool
issuer_is_bad issuer profile = not (bytes_eq issuer profile.issuer)

-- L08: a unique identifier is present (RFC 5280, section 4.1.2.8; BR 2.1.5, section 7.1.2.7)
abbrev pub unique_id_is_present : Body → Bool
unique_id_is_present body = body.has_unique_id

-- ---- times

-- L05: a time has not its form (RFC 5280, section 4.1.2.5)
abbrev pub a_time_is_bad : Option ℤ → Option ℤ → Bool
a_time_is_bad begins ends = is_none begins || is_none ends

-- L06: the validity ends before it begins (RFC 5280, section 4.1.2.5)
abbrev pub ends_early : Option ℤ → Option ℤ → Bool
ends_early None ends = false
ends_early (Some begins) None = false
ends_early (Some begins) (Some ends) = int_lt ends begins

-- L07: the validity, both of its ends included, is longer than so many days of 86,400 seconds (BR 2.1.5, section 6.3.2)
abbrev pub lasts_too_long : ℕ → Option ℤ → Option ℤ → Bool
lasts_too_long days None ends = false
lasts_too_long days (Some begins) None = false
lasts_too_long days (Some begins) (Some ends) = int_lt (pos (days * 86400)) (ends -ℤ begins +ℤ pos 1)

-- ---- the subject

abbrev pub is_country : Attribute → Bool
is_country attribute = bytes_eq attribute.identifier identifiers.country_name

abbrev pub is_common : Attribute → Bool
is_common attribute = bytes_eq attribute.identifier identifiers.common_name

abbrev pub is_other : Attribute → Bool
is_other attribute = not (is_country attribute || is_common attribute)

abbrev pub same_attribute : Attribute → Attribute → Bool
same_attribute attribute other = bytes_eq attribute.identifier other.identifier

-- L09: an attribute is neither a countryName nor a commonName, or one is there twice (BR 2.1.5, section 7.1.2.7.2)
abbrev pub an_attribute_is_bad : List Attribute → Bool
an_attribute_is_bad subject = list_any is_other subject || has_twice same_attribute subject

-- a PrintableString of two upper-case letters
abbrev pub is_country_code : Primitive → Bool
is_country_code value = (value.tag == 0x13) && (length value.content == 2) && list_all is_ascii_uppercase value.content

-- L10: a countryName is no such code (RFC 5280, appendix A.1; BR 2.1.5, section 7.1.4.2). Laxer: any two letters pass.
abbrev pub is_bad_country : Attribute → Bool
is_bad_country attribute = is_country attribute && not (is_country_code attribute.value)

abbrev pub a_country_is_bad : List Attribute → Bool
a_country_is_bad subject = list_any is_bad_country subject

-- a PrintableString or a UTF8String of 1 to 64 ASCII bytes
abbrev pub may_be_name : Primitive → Bool
may_be_name value =
    ((value.tag == 0x13) || (value.tag == 0x0c)) && not (length value.content == 0) && nat_le (length value.content) 64
    && list_all is_ascii value.content

-- the text of one of the targets
abbrev pub is_name_among : List Target → Primitive → Bool
is_name_among targets value = may_be_name value && list_any (is_text_of value.content) targets

-- L11: a commonName is not the text of a name in the subjectAltName (BR 2.1.5, section 7.1.4.3). That it is no IPv6
-- address is this project's own rule.
abbrev pub is_bad_common : List Target → Attribute → Bool
is_bad_common targets attribute = is_common attribute && not (is_name_among targets attribute.value)

abbrev pub a_common_name_is_bad : List Target → List Attribute → Bool
a_common_name_is_bad targets subject = list_any (is_bad_common targets) subject

-- ---- the key

abbrev pub is_rsa : Option KeyKind → Bool
is_rsa None = false
is_rsa (Some Rsa) = true
is_rsa (Some P256) = false
is_rsa (Some P384) = false
is_rsa (Some P521) = false

-- L12: the key's algorithm is none of the four (BR 2.1.5, section 7.1.3.1)
abbrev pub key_algorithm_is_bad : Option KeyKind → Bool
key_algorithm_is_bad kind = is_none kind

abbrev pub rsa_numbers : Option Node → Option (List ℕ × List ℕ)
rsa_numbers key = do
  tree ← key
  numbers_of tree

-- two positive numbers, the first of which may be a modulus (RFC 8017, section A.1.1; BR 2.1.5, section 6.1.5)
abbrev pub modulus_is_good : Option (List ℕ × List ℕ) → Bool
modulus_is_good None = false
modulus_is_good (Some numbers) = is_modulus numbers.0 && is_positive numbers.1

-- L13: an RSA key is not two positive numbers, or its modulus has fewer than 2,048 bits or not a multiple of 8 (RFC
-- 8017, appendix A.1.1; BR 2.1.5, section 6.1.5)
abbrev pub modulus_is_bad : Option KeyKind → Option Node → Bool
modulus_is_bad kind key = is_rsa kind && not (modulus_is_good (rsa_numbers key))

abbrev pub exponent_is_good : Option (List ℕ × List ℕ) → Bool
exponent_is_good None = true
exponent_is_good (Some numbers) = is_exponent numbers.1

-- L14: an RSA key is two numbers, and its exponent is even or below 3 (BR 2.1.5, section 6.1.6), or above 32 bytes,
-- which is this project's own rule
abbrev pub exponent_is_bad : Option KeyKind → Option Node → Bool
exponent_is_bad kind key = is_rsa kind && not (exponent_is_good (rsa_numbers key))

-- how many bytes a coordinate on the kind's curve has
abbrev pub coordinate_len : Option KeyKind → Option ℕ
coordinate_len None = None
coordinate_len (Some Rsa) = None
coordinate_len (Some P256) = Some 32
coordinate_len (Some P384) = Some 48
coordinate_len (Some P521) = Some 66

abbrev pub is_point_of : ℕ → Option (List ℕ) → Bool
is_point_of len None = false
is_point_of len (Some point) = is_point len point

abbrev pub is_bad_point : Option ℕ → List ℕ → Bool
is_bad_point None bits = false
is_bad_point (Some len) bits = not (is_point_of len (behind_zero bits))

-- L15: the key of a curve is no uncompressed point of its length (RFC 5480, section 2.2). That a point is not
-- compressed is this project's own rule; whether it lies on its curve (BR 2.1.5, section 6.1.5) is not judged.
abbrev pub point_is_bad : Option KeyKind → List ℕ → Bool
point_is_bad kind bits = is_bad_point (coordinate_len kind) bits

-- ---- extensions

abbrev pub same_extension : Extension → Extension → Bool
same_extension extension other = bytes_eq extension.identifier other.identifier

-- L16: the extensions are absent, or one occurs twice (RFC 5280, section 4.2; BR 2.1.5, section 7.1.2.7)
abbrev pub extensions_are_bad : Option (List Extension) → Bool
extensions_are_bad None = true
extensions_are_bad (Some extensions) = has_twice same_extension extensions

abbrev pub is_allowed : Extension → Bool
is_allowed extension = list_any (bytes_eq extension.identifier) identifiers.allowed_extensions

-- L17: an extension is none of `allowed_extensions` (BR 2.1.5, section 7.1.2.7.6)
abbrev pub an_extension_is_unknown : Option (List Extension) → Bool
an_extension_is_unknown extensions = list_any (λ extension. not (is_allowed extension)) (or_empty extensions)

-- an extension that has to be there is absent or critical
abbrev pub absent_or_critical : Option Extension → Bool
absent_or_critical None = true
absent_or_critical (Some extension) = extension.critical

abbrev pub absent_or_not_critical : Option Extension → Bool
absent_or_not_critical None = true
absent_or_not_critical (Some extension) = not extension.critical

abbrev pub has_value : List ℕ → Option Extension → Bool
has_value value None = false
has_value value (Some extension) = bytes_eq extension.value value

-- ---- names (BR 2.1.5, section 7.1.2.7.12)

-- L18: the subjectAltName is absent (BR 2.1.5, section 7.1.2.7.12)
abbrev pub names_are_absent : Judged → Bool
names_are_absent names = is_none names.extension

-- one or more, each a dNSName or an iPAddress
abbrev pub are_names : Option Nodes → Bool
are_names None = false
are_names (Some parts) = not (are_none parts) && all_parts is_general_name parts

-- L19: the subjectAltName is present and is no SEQUENCE of these (RFC 5280, section 4.2.1.6; BR 2.1.5, section
-- 7.1.2.7.12)
abbrev pub names_are_bad : Judged → Bool
names_are_bad names = is_some names.extension && not (are_names (elements names.tree))

-- L20: a dNSName is no domain name in lower case, or a target occurs twice (BR 2.1.5, section 7.1.2.7.12). That
-- upper case and repetition are refused is this project's own rule.
abbrev pub a_name_is_bad : Nodes → Bool
a_name_is_bad parts = any_part is_bad_dns_name parts || has_twice target_eq (targets_of parts)

-- L21: a dNSName has no base under the public suffixes (BR 2.1.5, section 3.2.2.6, for wildcards; for other names this
-- project's own rule). That a name which no rule covers has none is this project's own, too.
abbrev pub a_name_has_no_base : List Rule → List Target → Bool
a_name_has_no_base suffixes targets = list_any (has_no_base suffixes) targets

-- L22: an iPAddress is reserved (BR 2.1.5, section 7.1.2.7.12), by this project's own list of addresses
abbrev pub an_address_is_reserved : List Target → Bool
an_address_is_reserved targets = list_any is_reserved targets

-- L23: the subjectAltName is critical although there is a subject, or not critical although there is none (RFC 5280,
-- section 4.2.1.6; BR 2.1.5, section 7.1.2.7.12)
abbrev pub names_are_wrongly_critical : Option Extension → Bool → Bool
names_are_wrongly_critical None subject_is_empty = false
names_are_wrongly_critical (Some extension) subject_is_empty = not (bool_eq extension.critical subject_is_empty)

-- L34: the subjectAltName has more than 100 names, which is this project's own limit
abbrev pub names_are_many : Nodes → Bool
names_are_many parts = nat_lt 100 (count_parts is_general_name parts)

-- ---- usage (RFC 5280, section 4.2.1.3; BR 2.1.5, section 7.1.2.7.11)

abbrev pub is_bit_string : Option Node → Bool
is_bit_string None = false
is_bit_string (Some (primitive tag content)) = tag == 3
is_bit_string (Some (constructed tag parts)) = false

-- L24: keyUsage is absent, not critical, or no BIT STRING (RFC 5280, section 4.2.1.3; BR 2.1.5, section 7.1.2.7.6).
-- That it may not be absent is this project's own rule.
abbrev pub usage_is_bad : Judged → Bool
usage_is_bad usage = absent_or_not_critical usage.extension || not (is_bit_string usage.tree)

-- digitalSignature alone, or with keyEncipherment
abbrev pub signs : List ℕ
signs = 0x03 ∷ 0x02 ∷ 0x07 ∷ 0x80 ∷ []

abbrev pub signs_and_enciphers : List ℕ
signs_and_enciphers = 0x03 ∷ 0x02 ∷ 0x05 ∷ 0xa0 ∷ []

-- L25: keyUsage is present and is not digitalSignature, to which an RSA key may add keyEncipherment (BR 2.1.5,
-- section 7.1.2.7.11). That no other bit is allowed is this project's own rule.
abbrev pub usage_is_wrong : Option KeyKind → Option Extension → Bool
usage_is_wrong kind usage =
    is_some usage && not (has_value signs usage || (is_rsa kind && has_value signs_and_enciphers usage))

-- ---- purposes (RFC 5280, section 4.2.1.12; BR 2.1.5, section 7.1.2.7.10)

-- the content of an OBJECT IDENTIFIER
abbrev pub is_identifier : Node → Bool
is_identifier (primitive tag content) = tag == 6
is_identifier (constructed tag parts) = false

abbrev pub is_server_auth : Node → Bool
is_server_auth (primitive tag content) = (tag == 6) && bytes_eq content identifiers.server_auth
is_server_auth (constructed tag parts) = false

abbrev pub is_other_purpose : Node → Bool
is_other_purpose (primitive tag content) =
    (tag == 6) && not (bytes_eq content identifiers.server_auth || bytes_eq content identifiers.client_auth)
is_other_purpose (constructed tag parts) = false

abbrev pub are_purposes : Option Nodes → Bool
are_purposes None = false
are_purposes (Some parts) = all_parts is_identifier parts

-- L26: extKeyUsage is absent, critical, or no SEQUENCE of OBJECT IDENTIFIERs (RFC 5280, section 4.2.1.12; BR 2.1.5,
-- section 7.1.2.7.6)
abbrev pub purposes_are_bad : Judged → Bool
purposes_are_bad purposes = absent_or_critical purposes.extension || not (are_purposes (elements purposes.tree))

-- L27: extKeyUsage is present without serverAuth, or with a purpose that is neither this nor clientAuth (BR 2.1.5,
-- section 7.1.2.7.10). That no other purpose is allowed is this project's own rule.
abbrev pub purposes_are_wrong : Judged → Bool
purposes_are_wrong purposes =
    is_some purposes.extension
    && (not (any_part is_server_auth (shown purposes.tree)) || any_part is_other_purpose (shown purposes.tree))

-- ---- constraints

-- L28: basicConstraints is present with something in it (RFC 5280, section 4.2.1.9; BR 2.1.5, section 7.1.2.7.8).
-- Laxer: it may be not critical.
abbrev pub constraints_are_bad : Option Extension → Bool
constraints_are_bad constraints = is_some constraints && not (has_value (0x30 ∷ 0x00 ∷ []) constraints)

-- L30: nameConstraints are there (BR 2.1.5, section 7.1.2.7.6; RFC 5280, section 4.2.1.10: in the certificates of
-- authorities alone)
abbrev pub names_are_constrained : Option Extension → Bool
names_are_constrained constraints = is_some constraints

-- ---- policies (RFC 5280, section 4.2.1.4; BR 2.1.5, section 7.1.2.7.9)

-- the OBJECT IDENTIFIER with which a PolicyInformation begins
abbrev pub policy_of : Node → Option (List ℕ)
policy_of tree = do
  parts ← parts_with 48 tree
  policy ← primitive_at 6 parts
  Some policy.0

abbrev pub is_policy : Node → Bool
is_policy tree = is_some (policy_of tree)

abbrev pub is_among : Option (List ℕ) → List ℕ → Bool
is_among None bytes = false
is_among (Some found) bytes = bytes_eq found bytes

abbrev pub is_domain_validated : Node → Bool
is_domain_validated tree = is_among (policy_of tree) identifiers.domain_validated

abbrev pub are_policies : Option Nodes → Bool
are_policies None = false
are_policies (Some parts) = all_parts is_policy parts && any_part is_domain_validated parts

-- L29: certificatePolicies is absent, no SEQUENCE of these, or lacks the policy of domain validation (BR 2.1.5,
-- sections 7.1.2.7.9 and 7.1.6.1). Laxer: it may be critical, and have other policies and qualifiers.
abbrev pub policies_are_bad : Judged → Bool
policies_are_bad policies = is_none policies.extension || not (are_policies (elements policies.tree))

-- ---- the issuer's key, its certificate and its revocation list

-- a keyIdentifier, [0], of twenty bytes
abbrev pub key_identifier : List ℕ → List ℕ
key_identifier key_id = 0x30 ∷ 0x16 ∷ 0x80 ∷ 0x14 ∷ key_id

-- L31: authorityKeyIdentifier is absent, critical, or not the profile's (RFC 5280, section 4.2.1.1; BR 2.1.5, section
-- 7.1.2.11.1)
abbrev pub authority_key_is_bad : Option Extension → Profile → Bool
authority_key_is_bad extension profile =
    absent_or_critical extension || not (has_value (key_identifier profile.key_id.0) extension)

abbrev pub is_http : List ℕ → Bool
is_http address = starts_with nat_eq address (codes "http://")

-- a uniformResourceIdentifier, [6], of http
abbrev pub is_http_name : Node → Bool
is_http_name (primitive tag content) = (tag == 0x86) && is_http content
is_http_name (constructed tag parts) = false

-- an AccessDescription: a method and one such name
abbrev pub described : Node → Option (List ℕ × List ℕ)
described tree = do
  parts ← parts_with 48 tree
  method ← primitive_at 6 parts
  address ← primitive_at 0x86 method.1
  at_end address.1 (method.0, address.0)

abbrev pub is_issuer_address : Option (List ℕ × List ℕ) → Bool
is_issuer_address None = false
is_issuer_address (Some found) = bytes_eq found.0 identifiers.ca_issuers && is_http found.1

abbrev pub names_issuer : Node → Bool
names_issuer tree = is_issuer_address (described tree)

-- L32: authorityInfoAccess is absent, critical, or has no address of the issuer's certificate (RFC 5280, section
-- 4.2.2.1; BR 2.1.5, section 7.1.2.7.7). Stricter: caIssuers is required. Laxer: what is beside it passes, such as
-- an OCSP address that is not HTTP.
abbrev pub access_is_bad : Judged → Bool
access_is_bad access = absent_or_critical access.extension || not (any_part names_issuer (shown access.tree))

-- the names of the first DistributionPoint: it begins with a distributionPoint, [0], of one fullName, [0]
abbrev pub full_name : Option Node → Option Nodes
full_name points = do
  parts ← elements points
  point ← constructed_at 48 parts
  name ← constructed_at 0xa0 point.0
  names ← constructed_at 0xa0 name.0
  at_end names.1 names.0

abbrev pub has_http_name : Option Nodes → Bool
has_http_name None = false
has_http_name (Some names) = any_part is_http_name names

-- L33: cRLDistributionPoints is absent, critical, or its first point has no address of http (RFC 5280, section
-- 4.2.1.13; BR 2.1.5, section 7.1.2.11.2). Stricter: it is always required. Laxer: further points, names, reasons
-- and cRLIssuer pass.
abbrev pub points_are_bad : Judged → Bool
points_are_bad points = absent_or_critical points.extension || not (has_http_name (full_name points.tree))
