-- The extensions of a certificate. The sections are those of RFC 5280; BR 2.1.5 (section 7.1.2.7.6) says which of them a
-- subscriber's certificate has, and which are critical.
use Rattle.std.specs.Prelude.{ℕ, Bool, true, false, not, List, [], ◌∷◌, ◌++◌, map}
use Rattle.gate_base.specs.declared.name.Target.{Target}
use Rattle.gate_base.specs.declared.profile.KeyKind.{KeyKind}
use Rattle.gate_base.specs.declared.profile.KeyKind.TheVariants.{Rsa, P256, P384, P521}
use Rattle.der_text.specs.Tree.{Node, primitive, constructed, Nodes, no_nodes, also, spelling, IsDer}
use Rattle.der_text.specs.View.{nodes_of}
use Rattle.tbs_build.specs.Names.{general_names}
use Rattle.tbs_build.specs.Plan.{Plan}

-- an element that is the only part of another
abbrev pub alone : Node → Nodes
alone part = also part no_nodes

-- ---- an extension (section 4.1): its identifier, whether it is critical, and an OCTET STRING

-- TRUE is written, and FALSE is left out, since it is the default (X.690, section 11.5)
abbrev pub with_critical : Bool → Nodes → Nodes
with_critical true others = also (primitive 1 (255 ∷ [])) others
with_critical false others = others

abbrev pub extension_with : List ℕ → Bool → List ℕ → Node
extension_with identifier critical value =
    constructed 48 (also (primitive 6 identifier) (with_critical critical (alone (primitive 4 value))))

-- the string spells the value, a tree of its own
pub record Extension : Type 0 where
  pub identifier : List ℕ
  pub critical : Bool
  pub value : Node

abbrev pub extension_tree : Extension → Node
extension_tree e = extension_with e.identifier e.critical (spelling e.value)

-- ---- the seven extensions

-- the identifier of the authority's key (section 4.2.1.1; BR 2.1.5, section 7.1.2.11.1), [0] of the SEQUENCE
abbrev pub authority_key_identifier : List ℕ → Extension
authority_key_identifier key_id =
    record {
      identifier = 0x55 ∷ 0x1d ∷ 0x23 ∷ [];
      critical = false;
      value = constructed 48 (alone (primitive 0x80 key_id));
    }

-- digitalSignature, bit 0, and for an RSA key keyEncipherment too, bit 2; the number of unused bits comes first (section 4.2.1.3;
-- BR 2.1.5, section 7.1.2.7.11)
abbrev pub usage_bits : KeyKind → List ℕ
usage_bits Rsa = 0x05 ∷ 0xa0 ∷ []
usage_bits P256 = 0x07 ∷ 0x80 ∷ []
usage_bits P384 = 0x07 ∷ 0x80 ∷ []
usage_bits P521 = 0x07 ∷ 0x80 ∷ []

abbrev pub key_usage : KeyKind → Extension
key_usage kind = record { identifier = 0x55 ∷ 0x1d ∷ 0x0f ∷ []; critical = true; value = primitive 3 (usage_bits kind) }

-- id-kp-serverAuth, 1.3.6.1.5.5.7.3.1 (section 4.2.1.12; BR 2.1.5, section 7.1.2.7.10)
abbrev pub server_auth : List ℕ
server_auth = 0x2b ∷ 0x06 ∷ 0x01 ∷ 0x05 ∷ 0x05 ∷ 0x07 ∷ 0x03 ∷ 0x01 ∷ []

abbrev pub extended_key_usage : Extension
extended_key_usage =
    record {
      identifier = 0x55 ∷ 0x1d ∷ 0x25 ∷ [];
      critical = false;
      value = constructed 48 (alone (primitive 6 server_auth));
    }

-- the names in the targets' order; critical exactly if the subject is empty (section 4.2.1.6; BR 2.1.5, section 7.1.2.7.12)
abbrev pub subject_alt_name : Bool → List Target → Extension
subject_alt_name common targets =
    record {
      identifier = 0x55 ∷ 0x1d ∷ 0x11 ∷ [];
      critical = not common;
      value = constructed 48 (general_names targets);
    }

-- the policy domain-validated of BR 2.1.5 (section 7.1.6.1), 2.23.140.1.2.1
abbrev pub domain_validated : List ℕ
domain_validated = 0x67 ∷ 0x81 ∷ 0x0c ∷ 0x01 ∷ 0x02 ∷ 0x01 ∷ []

-- one PolicyInformation without qualifiers (section 4.2.1.4; BR 2.1.5, section 7.1.2.7.9)
abbrev pub certificate_policies : Extension
certificate_policies =
    record {
      identifier = 0x55 ∷ 0x1d ∷ 0x20 ∷ [];
      critical = false;
      value = constructed 48 (alone (constructed 48 (alone (primitive 6 domain_validated))));
    }

-- a uniformResourceIdentifier, [6] of a GeneralName (section 4.2.1.6)
abbrev pub uri : List ℕ → Node
uri address = primitive 0x86 address

-- [0] a distributionPoint, which is [0] a fullName of one address
abbrev pub point_name : List ℕ → Node
point_name address = constructed 0xa0 (alone (constructed 0xa0 (alone (uri address))))

-- one DistributionPoint with nothing beside its name (section 4.2.1.13; BR 2.1.5, section 7.1.2.11.2)
abbrev pub crl_distribution_points : List ℕ → Extension
crl_distribution_points address =
    record {
      identifier = 0x55 ∷ 0x1d ∷ 0x1f ∷ [];
      critical = false;
      value = constructed 48 (alone (constructed 48 (alone (point_name address))));
    }

-- id-ad-caIssuers, 1.3.6.1.5.5.7.48.2 (section 4.2.2.1)
abbrev pub ca_issuers : List ℕ
ca_issuers = 0x2b ∷ 0x06 ∷ 0x01 ∷ 0x05 ∷ 0x05 ∷ 0x07 ∷ 0x30 ∷ 0x02 ∷ []

-- one AccessDescription (section 4.2.2.1; BR 2.1.5, section 7.1.2.7.7)
abbrev pub authority_info_access : List ℕ → Extension
authority_info_access address =
    record {
      identifier = 0x2b ∷ 0x06 ∷ 0x01 ∷ 0x05 ∷ 0x05 ∷ 0x07 ∷ 0x01 ∷ 0x01 ∷ [];
      critical = false;
      value = constructed 48 (alone (constructed 48 (also (primitive 6 ca_issuers) (alone (uri address)))));
    }

-- ---- those of a plan, in the order in which they are written

abbrev pub about_key_and_names : Plan → List Extension
about_key_and_names plan =
    authority_key_identifier plan.profile.key_id.0 ∷ key_usage plan.kind ∷ extended_key_usage
    ∷ subject_alt_name plan.common plan.targets ∷ []

abbrev pub about_policy_and_addresses : Plan → List Extension
about_policy_and_addresses plan =
    certificate_policies ∷ crl_distribution_points plan.profile.crl ∷ authority_info_access plan.profile.aia ∷ []

abbrev pub extensions_of : Plan → List Extension
extensions_of plan = about_key_and_names plan ++ about_policy_and_addresses plan

abbrev pub extension_trees : List Extension → Nodes
extension_trees extensions = nodes_of (map extension_tree extensions)

-- the string of the extension spells its value, which is in the form by itself
abbrev pub IsSpelled : Extension → Type 0
IsSpelled e = IsDer (spelling e.value) e.value
