-- Which rules of the profile a sound plan's body can break.
use Rattle.std.specs.Prelude.{◌≡◌, ℕ, Bool, ◌||◌, ◌==◌, IsTrue, length}
use Rattle.gate_base.specs.declared.name.Address.TheVariants.{V4, V6}
use Rattle.gate_base.specs.declared.name.Target.{Target}
use Rattle.gate_base.specs.declared.name.Target.TheVariants.{Dns, Ip}

-- An address has the octets of its family, four or sixteen (RFC 5280, section 4.2.1.6). In the program its type says
-- so; here they are a list.
abbrev pub HasItsOctets : Target → Type 0
HasItsOctets (Dns name) = Unit {0}
HasItsOctets (Ip (V4 octets)) = length octets ≡ 4
HasItsOctets (Ip (V6 octets)) = length octets ≡ 16

-- L07, the longest validity of the day; L11, the text of a commonName; L20, the texts of names, and that none is there
-- twice; L21, public suffixes; L22, reserved addresses; L34, the number of names
abbrev pub can_be_broken : ℕ → Bool
can_be_broken rule = (rule == 7) || (rule == 11) || (rule == 20) || (rule == 21) || (rule == 22) || (rule == 34)

abbrev pub CanBeBroken : ℕ → Type 0
CanBeBroken rule = IsTrue (can_be_broken rule)
