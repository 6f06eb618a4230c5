-- The body of a certificate: a TBSCertificate, as the bytes of a plan and as a tree. The sections are those of
-- RFC 5280.
use Rattle.std.specs.Prelude.{◌≡◌, ℕ, List, [], ◌∷◌, ◌++◌, if◌then◌else◌}
use Rattle.gate_base.specs.declared.name.Target.{Target}
use Rattle.gate_base.specs.declared.profile.SigAlg.{SigAlg}
use Rattle.gate_base.specs.declared.profile.SigAlg.TheVariants.{RsaSha256, EcdsaSha256, EcdsaSha384}
use Rattle.der_text.specs.Tree.{Node, primitive, constructed, Nodes, no_nodes, also, element, spelling}
use Rattle.names_core.specs.Target.{target_text}
use Rattle.cert_time.specs.Time.{time_of, tag_of, text_of}
use Rattle.tbs_build.specs.Certificate.{algorithm_bytes}
use Rattle.tbs_build.specs.Extension.{alone, extensions_of, extension_trees}
use Rattle.tbs_build.specs.Names.{general_names}
use Rattle.tbs_build.specs.Plan.{Plan}

-- ---- its parts

-- version 3, which is the number 2, in [0] (section 4.1.2.1)
abbrev pub version : Node
version = constructed 0xa0 (alone (primitive 2 (2 ∷ [])))

-- the serial number (section 4.1.2.2)
abbrev pub serial_number : Plan → Node
serial_number plan = primitive 2 plan.serial

-- 1.2.840.113549.1.1.11, with a NULL behind it (RFC 4055, section 5)
abbrev pub sha256_with_rsa : List ℕ
sha256_with_rsa = 0x2a ∷ 0x86 ∷ 0x48 ∷ 0x86 ∷ 0xf7 ∷ 0x0d ∷ 0x01 ∷ 0x01 ∷ 0x0b ∷ []

-- 1.2.840.10045.4.3.2 and .3, with nothing behind them (RFC 5758, section 3.2)
abbrev pub ecdsa_with_sha256 : List ℕ
ecdsa_with_sha256 = 0x2a ∷ 0x86 ∷ 0x48 ∷ 0xce ∷ 0x3d ∷ 0x04 ∷ 0x03 ∷ 0x02 ∷ []

abbrev pub ecdsa_with_sha384 : List ℕ
ecdsa_with_sha384 = 0x2a ∷ 0x86 ∷ 0x48 ∷ 0xce ∷ 0x3d ∷ 0x04 ∷ 0x03 ∷ 0x03 ∷ []

abbrev pub algorithm_tree : SigAlg → Node
algorithm_tree RsaSha256 = constructed 48 (also (primitive 6 sha256_with_rsa) (alone (primitive 5 [])))
algorithm_tree EcdsaSha256 = constructed 48 (alone (primitive 6 ecdsa_with_sha256))
algorithm_tree EcdsaSha384 = constructed 48 (alone (primitive 6 ecdsa_with_sha384))

abbrev pub time_node : ℕ → Node
time_node moment = primitive (tag_of (time_of moment)) (text_of (time_of moment))

-- from the first second to the last (section 4.1.2.5)
abbrev pub validity : Plan → Node
validity plan = constructed 48 (also (time_node plan.not_before) (alone (time_node plan.not_after)))

-- id-at-commonName, 2.5.4.3
abbrev pub common_name_type : List ℕ
common_name_type = 0x55 ∷ 0x04 ∷ 0x03 ∷ []

-- one relative name of one attribute, a commonName as UTF8String (sections 4.1.2.4 and 4.1.2.6)
abbrev pub common_name : List ℕ → Node
common_name text =
    constructed 49 (alone (constructed 48 (also (primitive 6 common_name_type) (alone (primitive 12 text)))))

abbrev pub first_text : List Target → List ℕ
first_text [] = []
first_text (first ∷ rest) = target_text first

-- an empty subject, or the text of the first target (section 4.1.2.6; BR 2.1.5, section 7.1.4.3)
abbrev pub subject_parts : Plan → Nodes
subject_parts plan = if plan.common then alone (common_name (first_text plan.targets)) else no_nodes

abbrev pub subject : Plan → Node
subject plan = constructed 48 (subject_parts plan)

-- the extensions, in [3] (section 4.1.2.9)
abbrev pub extensions : Plan → Node
extensions plan = constructed 0xa3 (alone (constructed 48 (extension_trees (extensions_of plan))))

-- ---- the whole

-- the issuer's name and the key stand as they are in the plan
abbrev pub front_of : Plan → List ℕ
front_of plan =
    spelling version ++ spelling (serial_number plan) ++ algorithm_bytes plan.profile.alg ++ plan.profile.issuer
    ++ spelling (validity plan)

abbrev pub body_content : Plan → List ℕ
body_content plan = front_of plan ++ spelling (subject plan) ++ plan.spki ++ spelling (extensions plan)

-- a SEQUENCE of these parts (section 4.1)
abbrev pub body_of : Plan → List ℕ
body_of plan = element 48 (body_content plan)

abbrev pub body_tree : Plan → Node → Node → Node
body_tree plan issuer key =
    constructed 48 (also version (also (serial_number plan) (also (algorithm_tree plan.profile.alg) (also issuer
    (also (validity plan) (also (subject plan) (also key (alone (extensions plan)))))))))

-- the tree has these parts, with the trees of the issuer's name and of the key in their places
pub record IsBodyTree (plan : Plan) (tree : Node) : Type 0 where
  pub issuer : Node
  pub key : Node
  pub issuer_spelled : spelling issuer ≡ plan.profile.issuer
  pub key_spelled : spelling key ≡ plan.spki
  pub is : tree ≡ body_tree plan issuer key

-- two plans say the same in a certificate, where targets are seen as the names that they are there
pub record SaysTheSame (plan other : Plan) : Type 0 where
  pub serial : plan.serial ≡ other.serial
  pub not_before : plan.not_before ≡ other.not_before
  pub not_after : plan.not_after ≡ other.not_after
  pub spki : plan.spki ≡ other.spki
  pub kind : plan.kind ≡ other.kind
  pub names : general_names plan.targets ≡ general_names other.targets
  pub common : plan.common ≡ other.common
  pub issuer : plan.profile.issuer ≡ other.profile.issuer
  pub alg : plan.profile.alg ≡ other.profile.alg
  pub key_id : plan.profile.key_id.0 ≡ other.profile.key_id.0
  pub crl : plan.profile.crl ≡ other.profile.crl
  pub aia : plan.profile.aia ≡ other.profile.aia
