-- Which public keys are certified, and of which kind they are. A key is a SubjectPublicKeyInfo (RFC 5280, section 4.1):
-- a SEQUENCE of its algorithm and a BIT STRING.
use Rattle.std.specs.Prelude.{◌≡◌, ℕ, ◌*◌, ◌%◌, Bool, false, not, ◌&&◌, ◌==◌, nat_le, nat_lt, IsTrue, List, [], ◌∷◌, length, Option, Some, None, if◌then◌else◌}
use Rattle.std.specs.Str.{bytes_eq}
use Rattle.gate_base.specs.declared.profile.KeyKind.{KeyKind}
use Rattle.gate_base.specs.declared.profile.KeyKind.TheVariants.{Rsa, P256, P384, P521}
use Rattle.der_text.specs.Content.{last_of}
use Rattle.der_text.specs.Tree.{Node, primitive, constructed, no_nodes, also, spelling, IsDer}
use Rattle.der_text.specs.Parts.{◌>>=◌, parts_with, primitive_at, behind_first, at_end}

-- the bytes of the algorithm (BR 2.1.5, section 7.1.3.1): rsaEncryption with NULL, or id-ecPublicKey with the curve
abbrev pub algorithm_bytes : KeyKind → List ℕ
algorithm_bytes Rsa =
    0x30 ∷ 0x0d ∷ 0x06 ∷ 0x09 ∷ 0x2a ∷ 0x86 ∷ 0x48 ∷ 0x86 ∷ 0xf7 ∷ 0x0d ∷ 0x01 ∷ 0x01 ∷ 0x01 ∷ 0x05 ∷ 0x00 ∷ []
algorithm_bytes P256 =
    0x30 ∷ 0x13 ∷ 0x06 ∷ 0x07 ∷ 0x2a ∷ 0x86 ∷ 0x48 ∷ 0xce ∷ 0x3d ∷ 0x02 ∷ 0x01
    ∷ 0x06 ∷ 0x08 ∷ 0x2a ∷ 0x86 ∷ 0x48 ∷ 0xce ∷ 0x3d ∷ 0x03 ∷ 0x01 ∷ 0x07 ∷ []
algorithm_bytes P384 =
    0x30 ∷ 0x10 ∷ 0x06 ∷ 0x07 ∷ 0x2a ∷ 0x86 ∷ 0x48 ∷ 0xce ∷ 0x3d ∷ 0x02 ∷ 0x01 ∷ 0x06 ∷ 0x05 ∷ 0x2b ∷ 0x81 ∷ 0x04 ∷ 0x00 ∷ 0x22 ∷ []
algorithm_bytes P521 =
    0x30 ∷ 0x10 ∷ 0x06 ∷ 0x07 ∷ 0x2a ∷ 0x86 ∷ 0x48 ∷ 0xce ∷ 0x3d ∷ 0x02 ∷ 0x01 ∷ 0x06 ∷ 0x05 ∷ 0x2b ∷ 0x81 ∷ 0x04 ∷ 0x00 ∷ 0x23 ∷ []

-- the kind that an algorithm's bytes name
abbrev pub kind_of : List ℕ → Option KeyKind
kind_of algorithm =
    if bytes_eq algorithm (algorithm_bytes Rsa) then Some Rsa else
    if bytes_eq algorithm (algorithm_bytes P256) then Some P256 else
    if bytes_eq algorithm (algorithm_bytes P384) then Some P384 else
    if bytes_eq algorithm (algorithm_bytes P521) then Some P521 else
    None

-- ---- numbers, by the content of an INTEGER (X.690, section 8.3)

abbrev pub begins_from_128 : List ℕ → Bool
begins_from_128 [] = false
begins_from_128 (first ∷ rest) = nat_le 128 first

-- the bytes of the number, without the 00 that stands before a byte from 128 on
abbrev pub magnitude : List ℕ → List ℕ
magnitude [] = []
magnitude (first ∷ rest) = if first == 0 then rest else first ∷ rest

abbrev pub is_positive : List ℕ → Bool
is_positive content = not (begins_from_128 content) && nat_lt 0 (length (magnitude content))

-- A modulus has 2,048 bits or more, and a multiple of 8 (BR 2.1.5, section 6.1.5): the top bit of its first byte is set.
abbrev pub is_modulus : List ℕ → Bool
is_modulus content = is_positive content && begins_from_128 (magnitude content) && nat_le 256 (length (magnitude content))

abbrev pub is_odd : List ℕ → Bool
is_odd [] = false
is_odd (first ∷ rest) = last_of first rest % 2 == 1

abbrev pub is_one : List ℕ → Bool
is_one [] = false
is_one (first ∷ []) = first == 1
is_one (first ∷ second ∷ rest) = false

-- An exponent is odd and 3 or more (BR 2.1.5, section 6.1.6). That it has at most 32 bytes is this project's own.
abbrev pub is_exponent : List ℕ → Bool
is_exponent content = is_positive content && is_odd content && not (is_one content) && nat_le (length (magnitude content)) 32

-- ---- the bits of a key

-- An RSA key (RFC 8017, section A.1.1) is a SEQUENCE of modulus and exponent.
abbrev pub rsa_tree : List ℕ → List ℕ → Node
rsa_tree modulus exponent = constructed 48 (also (primitive 2 modulus) (also (primitive 2 exponent) no_nodes))

pub record IsRsa (bits : List ℕ) : Type 0 where
  pub modulus : List ℕ
  pub exponent : List ℕ
  pub spelled : IsDer bits (rsa_tree modulus exponent)
  pub good_modulus : IsTrue (is_modulus modulus)
  pub good_exponent : IsTrue (is_exponent exponent)

-- a point (RFC 5480, section 2.2) that is not compressed: 04 and two coordinates of so many bytes. That compressed points are
-- refused is this project's own rule; whether the point lies on its curve (BR 2.1.5, section 6.1.5) is not judged.
abbrev pub is_point : ℕ → List ℕ → Bool
is_point size [] = false
is_point size (form ∷ coordinates) = form == 4 && (length coordinates == 2 * size)

abbrev pub AreBitsOf : KeyKind → List ℕ → Type 0
AreBitsOf Rsa bits = IsRsa bits
AreBitsOf P256 bits = IsTrue (is_point 32 bits)
AreBitsOf P384 bits = IsTrue (is_point 48 bits)
AreBitsOf P521 bits = IsTrue (is_point 66 bits)

-- ---- a key

-- the bits stand in a BIT STRING behind the number of unused ones, which is 0
abbrev pub key_tree : Node → List ℕ → Node
key_tree algorithm bits = constructed 48 (also algorithm (also (primitive 3 (0 ∷ bits)) no_nodes))

-- the bytes spell a good key of the kind
pub record IsKeyOf (bytes : List ℕ) (kind : KeyKind) : Type 0 where
  pub algorithm : Node
  pub bits : List ℕ
  pub spelled : IsDer bytes (key_tree algorithm bits)
  pub named : spelling algorithm ≡ algorithm_bytes kind
  pub good : AreBitsOf kind bits

-- ---- reading

abbrev pub numbers_of : Node → Option (List ℕ × List ℕ)
numbers_of tree = do
  parts ← parts_with 48 tree
  modulus ← primitive_at 2 parts
  exponent ← primitive_at 2 modulus.1
  at_end exponent.1 (modulus.0, exponent.0)

-- what follows a first byte of 0
abbrev pub behind_zero : List ℕ → Option (List ℕ)
behind_zero [] = None
behind_zero (first ∷ rest) = if first == 0 then Some rest else None

abbrev pub bits_of : Node → Option (List ℕ)
bits_of tree = do
  parts ← parts_with 48 tree
  others ← behind_first parts
  content ← primitive_at 3 others
  bits ← behind_zero content.0
  at_end content.1 bits
