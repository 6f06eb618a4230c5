-- The target that a GeneralName is (RFC 5280, section 4.2.1.6).
use Rattle.std.specs.Prelude.{ℕ, List, length, Option, Some, None, Result, Ok, Err, ◌==◌, if◌then◌else◌}
use Rattle.gate_base.specs.declared.name.Address.TheVariants.{V4, V6}
use Rattle.gate_base.specs.declared.name.Name.{Name}
use Rattle.gate_base.specs.declared.name.Target.{Target}
use Rattle.gate_base.specs.declared.name.Target.TheVariants.{Dns, Ip}
use Rattle.names_core.specs.declared.fault.NameFault.{NameFault}
use Rattle.names_core.specs.Name.{name_read}
use Rattle.der_text.specs.Tree.{Node, primitive, constructed}

abbrev pub dns_of : Result Name NameFault → Option Target
dns_of (Ok name) = Some (Dns name)
dns_of (Err fault) = None

-- four octets of IPv4, or sixteen of IPv6
abbrev pub ip_of : List ℕ → Option Target
ip_of octets =
    if length octets == 4 then Some (Ip (V4 octets)) else if length octets == 16 then Some (Ip (V6 octets)) else None

-- a dNSName, [2], whose text is a domain name, or an iPAddress, [7]
abbrev pub target_of : Node → Option Target
target_of (primitive tag content) =
    if tag == 0x82 then dns_of (name_read content) else if tag == 0x87 then ip_of content else None
target_of (constructed tag parts) = None
