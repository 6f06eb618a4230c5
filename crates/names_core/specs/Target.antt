-- What text is a name or an address, and the one text of each.
use Rattle.std.specs.Prelude.{◌≡◌, ℕ, Bool, not, ◌&&◌, ◌==◌, List, [], ◌++◌, length, codes, Option, Some, None, Result, Ok, Err, if◌then◌else◌}
use Rattle.std.specs.Char.{is_ascii_digit}
use Rattle.std.specs.List.{list_any, list_all, join_with_byte, after_last}
use Rattle.gate_base.specs.declared.name.Address.{Address}
use Rattle.gate_base.specs.declared.name.Address.TheVariants.{V4, V6}
use Rattle.gate_base.specs.declared.name.Name.{Name}
use Rattle.gate_base.specs.declared.name.Target.{Target}
use Rattle.gate_base.specs.declared.name.Target.TheVariants.{Dns, Ip}
use Rattle.names_core.specs.declared.fault.NameFault.{NameFault}
use Rattle.names_core.specs.declared.fault.NameFault.TheVariants.{BadAddress}
use Rattle.names_core.specs.Address.{v4_of, v4_text, v6_of, v6_text}
use Rattle.names_core.specs.Name.{in_lower_case, is_full_stop, name_read}

-- a text with a colon is meant as an IPv6 address
abbrev pub has_colon : List ℕ → Bool
has_colon text = list_any (λ byte. byte == 58) text

-- a text whose last label is all digits is meant as an IPv4 address (RFC 3696, section 2: no top level domain is all digits)
abbrev pub is_number : List ℕ → Bool
is_number label = not (length label == 0) && list_all is_ascii_digit label

abbrev pub ends_in_number : List ℕ → Bool
ends_in_number text = is_number (after_last is_full_stop text)

-- an address of such octets, or no well-formed address
abbrev pub address_read : (List ℕ → Address) → Option (List ℕ) → Result Target NameFault
address_read family (Some octets) = Ok (Ip (family octets))
address_read family None = Err BadAddress

abbrev pub dns_read : Result Name NameFault → Result Target NameFault
dns_read (Ok name) = Ok (Dns name)
dns_read (Err fault) = Err fault

-- the target that a text is read to, or its fault
abbrev pub target_read : List ℕ → Result Target NameFault
target_read text =
    if has_colon text then address_read V6 (v6_of text)
    else (if ends_in_number text then address_read V4 (v4_of text) else dns_read (name_read text))

-- the target is read from some text
abbrev pub IsTarget : Target → Type 0
IsTarget target = (text : List ℕ) × (target_read text ≡ Ok target)

-- the labels with full stops between them, behind the `*.` of a wildcard
abbrev pub name_text : Name → List ℕ
name_text name = (if name.wild then codes "*." else []) ++ join_with_byte 46 name.labels

-- a name is what its own text is read to
abbrev pub IsName : Name → Type 0
IsName name = name_read (name_text name) ≡ Ok name

abbrev pub address_text : Address → List ℕ
address_text (V4 octets) = v4_text octets
address_text (V6 octets) = v6_text octets

-- the one text of a target
abbrev pub target_text : Target → List ℕ
target_text (Dns name) = name_text name
target_text (Ip address) = address_text address

-- a name's text is what was read, in lower case, and an address has no other text
abbrev pub IsWritten : List ℕ → Target → Type 0
IsWritten text (Dns name) = name_text name ≡ in_lower_case text
IsWritten text (Ip address) = address_text address ≡ text
