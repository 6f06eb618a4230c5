-- What bytes a certificate is, of a body and its signature (RFC 5280, section 4.1).
use Rattle.std.specs.Prelude.{ℕ, List, [], ◌∷◌, ◌++◌}
use Rattle.gate_base.specs.declared.profile.SigAlg.{SigAlg}
use Rattle.gate_base.specs.declared.profile.SigAlg.TheVariants.{RsaSha256, EcdsaSha256, EcdsaSha384}
use Rattle.der_text.specs.Tree.{element}

-- the bytes of the algorithm (BR 2.1.5, section 7.1.3.2): sha256WithRSAEncryption with NULL, or ecdsa-with-SHA256 or -SHA384
abbrev pub algorithm_bytes : SigAlg → List ℕ
algorithm_bytes RsaSha256 =
    0x30 ∷ 0x0d ∷ 0x06 ∷ 0x09 ∷ 0x2a ∷ 0x86 ∷ 0x48 ∷ 0x86 ∷ 0xf7 ∷ 0x0d ∷ 0x01 ∷ 0x01 ∷ 0x0b ∷ 0x05 ∷ 0x00 ∷ []
algorithm_bytes EcdsaSha256 = 0x30 ∷ 0x0a ∷ 0x06 ∷ 0x08 ∷ 0x2a ∷ 0x86 ∷ 0x48 ∷ 0xce ∷ 0x3d ∷ 0x04 ∷ 0x03 ∷ 0x02 ∷ []
algorithm_bytes EcdsaSha384 = 0x30 ∷ 0x0a ∷ 0x06 ∷ 0x08 ∷ 0x2a ∷ 0x86 ∷ 0x48 ∷ 0xce ∷ 0x3d ∷ 0x04 ∷ 0x03 ∷ 0x03 ∷ []

-- a BIT STRING (X.690, section 8.6) of whole bytes: no bit of the last one is unused
abbrev pub bit_string : List ℕ → List ℕ
bit_string bits = element 3 (0 ∷ bits)

-- a SEQUENCE of the body, the algorithm of its signature, and the signature
abbrev pub certificate_of : List ℕ → SigAlg → List ℕ → List ℕ
certificate_of body alg signature = element 48 (body ++ algorithm_bytes alg ++ bit_string signature)
