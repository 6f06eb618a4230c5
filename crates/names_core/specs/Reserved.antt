-- Reserved IP addresses, which no certificate may contain (BR 2.1.5, section 7.1.2.7.12). The list of blocks is this project's own,
-- after the IANA registries of special-purpose addresses (RFC 6890). It is stricter, for instance by multicast, and laxer: for
-- instance 192.88.99.0/24, 192.175.48.0/24, 2001::/23 and 2002::/16 are not in it.
use Rattle.std.specs.Prelude.{ℕ, ◌-◌, ◌/◌, ◌^◌, Bool, not, ◌||◌, ◌==◌, List, [], ◌∷◌, take}
use Rattle.std.specs.Int.{w32, from_be_bytes}
use Rattle.std.specs.List.{list_any}
use Rattle.gate_base.specs.declared.name.Address.{Address}
use Rattle.gate_base.specs.declared.name.Address.TheVariants.{V4, V6}

-- a block of addresses: the number of its first 32 bits, and how many bits its addresses share
pub record Block : Type 0 where
  pub start : ℕ
  pub bits : ℕ

-- a block, by its first four bytes
abbrev pub block : ℕ → ℕ → ℕ → ℕ → ℕ → Block
block a b c d bits = record { start = from_be_bytes w32 (a ∷ b ∷ c ∷ d ∷ []); bits = bits }

-- the number of an address's first 32 bits; no block shares more
abbrev pub first_bits : List ℕ → ℕ
first_bits octets = from_be_bytes w32 (take 4 octets)

-- the address begins with the bits that the block's addresses share (RFC 4632, section 3.1)
abbrev pub is_within : List ℕ → Block → Bool
is_within octets block = first_bits octets / 2 ^ (32 - block.bits) == block.start / 2 ^ (32 - block.bits)

abbrev pub reserved_v4 : List Block
reserved_v4 =
    block 0 0 0 0 8
    ∷ block 10 0 0 0 8
    ∷ block 100 64 0 0 10
    ∷ block 127 0 0 0 8
    ∷ block 169 254 0 0 16
    ∷ block 172 16 0 0 12
    ∷ block 192 0 0 0 24
    ∷ block 192 0 2 0 24
    ∷ block 192 168 0 0 16
    ∷ block 198 18 0 0 15
    ∷ block 198 51 100 0 24
    ∷ block 203 0 113 0 24
    ∷ block 224 0 0 0 3
    ∷ []

-- 2000::/3
abbrev pub global_unicast : Block
global_unicast = block 0x20 0 0 0 3

-- 2001:db8::/32
abbrev pub documentation : Block
documentation = block 0x20 0x01 0x0D 0xB8 32

-- the address is in a reserved block of IPv4, or outside global unicast of IPv6 or in its documentation block
abbrev pub is_reserved : Address → Bool
is_reserved (V4 octets) = list_any (is_within octets) reserved_v4
is_reserved (V6 octets) = not (is_within octets global_unicast) || is_within octets documentation
