-- The names of a subjectAltName (RFC 5280, section 4.2.1.6).
use Rattle.std.specs.Prelude.{ℕ, Bool, true, false, not, ◌&&◌, ◌||◌, ◌==◌, List, length, is_none, is_err}
use Rattle.std.specs.Char.{is_ascii_uppercase}
use Rattle.std.specs.List.{list_any}
use Rattle.std.specs.Str.{bytes_eq}
use Rattle.gate_base.specs.declared.name.Address.{Address}
use Rattle.gate_base.specs.declared.name.Address.TheVariants.{V4, V6}
use Rattle.gate_base.specs.declared.name.Name.{Name}
use Rattle.gate_base.specs.declared.name.Target.{Target}
use Rattle.gate_base.specs.declared.name.Target.TheVariants.{Dns, Ip}
use Rattle.names_core.specs.declared.rule.Rule.{Rule}
use Rattle.names_core.specs.Name.{name_read}
use Rattle.names_core.specs.Reserved as addresses
use Rattle.names_core.specs.Suffix.{base_len, labels_eq}
use Rattle.names_core.specs.Target.{target_text}
use Rattle.der_text.specs.Tree.{Node, primitive, constructed, Nodes}
use Rattle.cert_fields.specs.GeneralName.{target_of}
use Rattle.profile_lint.specs.Parts.{each_given}

-- four octets of IPv4, or sixteen of IPv6
abbrev pub is_address : List ℕ → Bool
is_address octets = (length octets == 4) || (length octets == 16)

-- a dNSName, [2], or an iPAddress, [7]
abbrev pub is_general_name : Node → Bool
is_general_name (primitive tag content) = (tag == 0x82) || ((tag == 0x87) && is_address content)
is_general_name (constructed tag parts) = false

-- the targets that the names are, in their order
abbrev pub targets_of : Nodes → List Target
targets_of parts = each_given target_of parts

-- a dNSName that is no domain name, or is not in lower case
abbrev pub is_bad_text : List ℕ → Bool
is_bad_text text = is_err (name_read text) || list_any is_ascii_uppercase text

abbrev pub is_bad_dns_name : Node → Bool
is_bad_dns_name (primitive tag content) = (tag == 0x82) && is_bad_text content
is_bad_dns_name (constructed tag parts) = false

abbrev pub bool_eq : Bool → Bool → Bool
bool_eq true b = b
bool_eq false b = not b

abbrev pub name_eq : Name → Name → Bool
name_eq name other = labels_eq name.labels other.labels && bool_eq name.wild other.wild

abbrev pub address_eq : Address → Address → Bool
address_eq (V4 octets) (V4 others) = bytes_eq octets others
address_eq (V4 octets) (V6 others) = false
address_eq (V6 octets) (V4 others) = false
address_eq (V6 octets) (V6 others) = bytes_eq octets others

abbrev pub target_eq : Target → Target → Bool
target_eq (Dns name) (Dns other) = name_eq name other
target_eq (Dns name) (Ip other) = false
target_eq (Ip address) (Dns other) = false
target_eq (Ip address) (Ip other) = address_eq address other

-- a name that is itself a public suffix, or lies under none: that such a name has no base is this project's own rule
abbrev pub has_no_base : List Rule → Target → Bool
has_no_base suffixes (Dns name) = is_none (base_len suffixes name.labels)
has_no_base suffixes (Ip address) = false

abbrev pub is_reserved : Target → Bool
is_reserved (Dns name) = false
is_reserved (Ip address) = addresses.is_reserved address

abbrev pub is_v6 : Target → Bool
is_v6 (Dns name) = false
is_v6 (Ip (V4 octets)) = false
is_v6 (Ip (V6 octets)) = true

-- the content is the text of the target, which is no IPv6 address
abbrev pub is_text_of : List ℕ → Target → Bool
is_text_of content target = not (is_v6 target) && bytes_eq (target_text target) content
