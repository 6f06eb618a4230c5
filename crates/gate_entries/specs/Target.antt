-- Targets in an entry: a name by its one text, or an address.
use Rattle.std.specs.Prelude.{◌≡◌, ℕ, suc, List, [], ◌∷◌, ◌++◌, length, codes, bytes_eq, Bool, true, false, Option, Some, None, Result, Ok, Err, ◌==◌, if◌then◌else◌}
use Rattle.std.specs.List.{join_with_byte}
use Rattle.std.specs.Int.{w8}
use Rattle.gate_base.specs.declared.name.Address.TheVariants.{V4, V6}
use Rattle.gate_base.specs.declared.name.Name.{Name}
use Rattle.gate_base.specs.declared.name.Target.{Target}
use Rattle.gate_base.specs.declared.name.Target.TheVariants.{Dns, Ip}
use Rattle.names_core.specs.declared.fault.NameFault.{NameFault}
use Rattle.names_core.specs.Name.{name_read}
use Rattle.names_core.specs.Target.{IsName, name_text}
use Rattle.gate_entries.specs.Field.{counted, truth, AreItems, ◌>>=◌, Read, bytes_at, counted_at, truth_at}

-- the labels with a full stop between two, which is a name's text without the `*.` of a wildcard
abbrev pub labels_text : List (List ℕ) → List ℕ
labels_text labels = join_with_byte 46 labels

-- 1, whether it is a wildcard, and the name's text without `*.`
abbrev pub name_bytes : Name → List ℕ
name_bytes name = (1 ∷ []) ++ truth name.wild ++ counted w8 (labels_text name.labels)

-- a name; 2 and an IPv4 address; 3 and an IPv6 address
abbrev pub target_bytes : Target → List ℕ
target_bytes (Dns name) = name_bytes name
target_bytes (Ip (V4 octets)) = 2 ∷ octets
target_bytes (Ip (V6 octets)) = 3 ∷ octets

-- a name is what its own text is read to, and an address has the octets of its kind
abbrev pub IsTarget : Target → Type 0
IsTarget (Dns name) = IsName name
IsTarget (Ip (V4 octets)) = length octets ≡ 4
IsTarget (Ip (V6 octets)) = length octets ≡ 16

-- at most 255 targets, each with a spelling
abbrev pub AreTargets : List Target → Type 0
AreTargets targets = AreItems IsTarget targets

-- ---- names

-- the name that was read, where the text is its one text
abbrev pub if_its_text : List ℕ → Result Name NameFault → Option Name
if_its_text text (Ok name) = if bytes_eq (name_text name) text then Some name else None
if_its_text text (Err fault) = None

-- the name whose one text this is
unfoldable pub name_with : List ℕ → Option Name
name_with text = if_its_text text (name_read text)

-- the name, where it is a wildcard or none as was said
abbrev pub as_said : Bool → Option Name → Option Name
as_said true (Some name) = if name.wild then Some name else None
as_said false (Some name) = if name.wild then None else Some name
as_said wild None = None

-- the name that has this text, behind `*.` where it is a wildcard
unfoldable pub name_behind : Bool → List ℕ → Option Name
name_behind wild text = as_said wild (name_with ((if wild then codes "*." else []) ++ text))

abbrev pub target_or : ℕ → List ℕ → Option Name → Read Target
target_or left rest (Some name) = Ok (Dns name, rest)
target_or left rest None = Err left

unfoldable pub text_at : Bool → List ℕ → Read Target
text_at wild bytes = counted_at w8 bytes >>= λ text. target_or (length bytes) text.1 (name_behind wild text.0)

unfoldable pub name_at : List ℕ → Read Target
name_at bytes = truth_at bytes >>= λ wild. text_at wild.0 wild.1

-- ---- addresses, and targets of each kind

unfoldable pub v4_at : List ℕ → Read Target
v4_at bytes = bytes_at 4 bytes >>= λ octets. Ok (Ip (V4 octets.0), octets.1)

unfoldable pub v6_at : List ℕ → Read Target
v6_at bytes = bytes_at 16 bytes >>= λ octets. Ok (Ip (V6 octets.0), octets.1)

unfoldable pub target_at : List ℕ → Read Target
target_at [] = Err 0
target_at (kind ∷ rest) =
    if kind == 1 then name_at rest else if kind == 2 then v4_at rest else if kind == 3 then v6_at rest else Err (suc (length rest))
