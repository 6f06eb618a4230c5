-- The names of a certificate, from the targets that it is for.
use Rattle.std.specs.Prelude.{◌≡◌, ◌≤◌, List, length, map}
use Rattle.gate_base.specs.declared.name.Address.TheVariants.{V4, V6}
use Rattle.gate_base.specs.declared.name.Target.{Target}
use Rattle.gate_base.specs.declared.name.Target.TheVariants.{Dns, Ip}
use Rattle.der_text.specs.Tree.{Node, primitive, Nodes, content_of}
use Rattle.der_text.specs.View.{nodes_of}
use Rattle.names_core.specs.Target.{name_text, IsName}

-- a target as a GeneralName (RFC 5280, section 4.2.1.6): the text of a dNSName, the octets of an iPAddress
abbrev pub general_name : Target → Node
general_name (Dns name) = primitive 0x82 (name_text name)
general_name (Ip (V4 octets)) = primitive 0x87 octets
general_name (Ip (V6 octets)) = primitive 0x87 octets

abbrev pub general_names : List Target → Nodes
general_names targets = nodes_of (map general_name targets)

-- a name's text has at most 253 bytes (RFC 1034, section 3.1)
abbrev pub IsShort : Target → Type 0
IsShort target = length (content_of (general_name target)) ≤ 253

-- What an entry may hold: a name that its own text is read to, or an address with the octets of its family, four or
-- sixteen (RFC 5280, section 4.2.1.6).
abbrev pub IsTarget : Target → Type 0
IsTarget (Dns name) = IsName name
IsTarget (Ip (V4 octets)) = length octets ≡ 4
IsTarget (Ip (V6 octets)) = length octets ≡ 16
