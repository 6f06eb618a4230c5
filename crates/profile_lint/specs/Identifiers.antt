-- OBJECT IDENTIFIERs, each by the content of its element, and the algorithms of signatures.
use Rattle.std.specs.Prelude.{ℕ, List, [], ◌∷◌}
use Rattle.gate_base.specs.declared.profile.SigAlg.{SigAlg}
use Rattle.gate_base.specs.declared.profile.SigAlg.TheVariants.{RsaSha256, EcdsaSha256, EcdsaSha384}

-- types of attributes (X.520): countryName, 2.5.4.6, and commonName, 2.5.4.3
abbrev pub country_name : List ℕ
country_name = 0x55 ∷ 0x04 ∷ 0x06 ∷ []

abbrev pub common_name : List ℕ
common_name = 0x55 ∷ 0x04 ∷ 0x03 ∷ []

-- extensions (RFC 5280, sections 4.2.1 and 4.2.2)
abbrev pub authority_key_identifier : List ℕ
authority_key_identifier = 0x55 ∷ 0x1d ∷ 0x23 ∷ []

abbrev pub key_usage : List ℕ
key_usage = 0x55 ∷ 0x1d ∷ 0x0f ∷ []

abbrev pub ext_key_usage : List ℕ
ext_key_usage = 0x55 ∷ 0x1d ∷ 0x25 ∷ []

abbrev pub subject_alt_name : List ℕ
subject_alt_name = 0x55 ∷ 0x1d ∷ 0x11 ∷ []

abbrev pub certificate_policies : List ℕ
certificate_policies = 0x55 ∷ 0x1d ∷ 0x20 ∷ []

abbrev pub crl_distribution_points : List ℕ
crl_distribution_points = 0x55 ∷ 0x1d ∷ 0x1f ∷ []

abbrev pub authority_info_access : List ℕ
authority_info_access = 0x2b ∷ 0x06 ∷ 0x01 ∷ 0x05 ∷ 0x05 ∷ 0x07 ∷ 0x01 ∷ 0x01 ∷ []

abbrev pub basic_constraints : List ℕ
basic_constraints = 0x55 ∷ 0x1d ∷ 0x13 ∷ []

abbrev pub name_constraints : List ℕ
name_constraints = 0x55 ∷ 0x1d ∷ 0x1e ∷ []

-- The extensions that a body may have (BR 2.1.5, section 7.1.2.7.6, without those that this project does not use).
-- nameConstraints may not be there at all; a rule of its own, L30, tells them.
abbrev pub allowed_extensions : List (List ℕ)
allowed_extensions =
    authority_key_identifier ∷ key_usage ∷ ext_key_usage ∷ subject_alt_name ∷ certificate_policies
    ∷ crl_distribution_points ∷ authority_info_access ∷ basic_constraints ∷ name_constraints ∷ []

-- purposes of a key (RFC 5280, section 4.2.1.12): id-kp-serverAuth and id-kp-clientAuth
abbrev pub server_auth : List ℕ
server_auth = 0x2b ∷ 0x06 ∷ 0x01 ∷ 0x05 ∷ 0x05 ∷ 0x07 ∷ 0x03 ∷ 0x01 ∷ []

abbrev pub client_auth : List ℕ
client_auth = 0x2b ∷ 0x06 ∷ 0x01 ∷ 0x05 ∷ 0x05 ∷ 0x07 ∷ 0x03 ∷ 0x02 ∷ []

-- the policy of certificates whose domain control alone was validated (BR 2.1.5, section 7.1.6.1): 2.23.140.1.2.1
abbrev pub domain_validated : List ℕ
domain_validated = 0x67 ∷ 0x81 ∷ 0x0c ∷ 0x01 ∷ 0x02 ∷ 0x01 ∷ []

-- an access method (RFC 5280, section 4.2.2.1): id-ad-caIssuers
abbrev pub ca_issuers : List ℕ
ca_issuers = 0x2b ∷ 0x06 ∷ 0x01 ∷ 0x05 ∷ 0x05 ∷ 0x07 ∷ 0x30 ∷ 0x02 ∷ []

-- the bytes of a signature's algorithm (BR 2.1.5, section 7.1.3.2): sha256WithRSAEncryption with NULL, ecdsa-with-SHA256 and
-- ecdsa-with-SHA384
abbrev pub signature_algorithm : SigAlg → List ℕ
signature_algorithm RsaSha256 =
    0x30 ∷ 0x0d ∷ 0x06 ∷ 0x09 ∷ 0x2a ∷ 0x86 ∷ 0x48 ∷ 0x86 ∷ 0xf7 ∷ 0x0d ∷ 0x01 ∷ 0x01 ∷ 0x0b ∷ 0x05 ∷ 0x00 ∷ []
signature_algorithm EcdsaSha256 = 0x30 ∷ 0x0a ∷ 0x06 ∷ 0x08 ∷ 0x2a ∷ 0x86 ∷ 0x48 ∷ 0xce ∷ 0x3d ∷ 0x04 ∷ 0x03 ∷ 0x02 ∷ []
signature_algorithm EcdsaSha384 = 0x30 ∷ 0x0a ∷ 0x06 ∷ 0x08 ∷ 0x2a ∷ 0x86 ∷ 0x48 ∷ 0xce ∷ 0x3d ∷ 0x04 ∷ 0x03 ∷ 0x03 ∷ []
