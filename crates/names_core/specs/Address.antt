-- Addresses as text. An address is seen as its octets.
use Rattle.std.specs.Prelude.{ℕ, ◌+◌, ◌-◌, ◌*◌, ◌/◌, ◌%◌, Bool, ◌&&◌, ◌||◌, ◌==◌, nat_lt, nat_le, List, [], ◌∷◌, ◌++◌, length, map, Option, Some, None, option_map, option_and_then, if◌then◌else◌}
use Rattle.std.specs.Char.{is_ascii_digit}
use Rattle.std.specs.Int.{is_in_range}
use Rattle.std.specs.List.{join_with_byte, slice_split}

-- what each part is read to, in a row, if each is read
abbrev pub read_each : (List ℕ → Option (List ℕ)) → List (List ℕ) → Option (List ℕ)
read_each read [] = Some []
read_each read (part ∷ parts) = option_and_then (λ front. option_map (λ back. front ++ back) (read_each read parts)) (read part)

-- exactly so many octets
abbrev pub exactly : ℕ → List ℕ → Option (List ℕ)
exactly count octets = if length octets == count then Some octets else None

-- ---- IPv4: four decimal numbers, with a full stop between each two (RFC 6943, section 3.1.1, "strict")

abbrev pub digit_of : ℕ → ℕ
digit_of value = 48 + value

-- a number below 256, with no zero in front
abbrev pub octet_text : ℕ → List ℕ
octet_text octet =
    (if nat_le 100 octet then digit_of (octet / 100) ∷ [] else []) ++ (if nat_le 10 octet then digit_of (octet / 10 % 10) ∷ [] else [])
    ++ digit_of (octet % 10) ∷ []

abbrev pub v4_text : List ℕ → List ℕ
v4_text octets = join_with_byte 46 (map octet_text octets)

abbrev pub is_leading : ℕ → Bool
is_leading byte = is_in_range 49 57 byte

-- one to three digits that are at most 255, the first of several no zero
abbrev pub octet_of : List ℕ → Option (List ℕ)
octet_of [] = None
octet_of (a ∷ []) = if is_ascii_digit a then Some ((a - 48) ∷ []) else None
octet_of (a ∷ b ∷ []) = if is_leading a && is_ascii_digit b then Some ((10 * (a - 48) + (b - 48)) ∷ []) else None
octet_of (a ∷ b ∷ c ∷ []) =
    if (is_leading a && is_ascii_digit b && is_ascii_digit c) && nat_le (100 * (a - 48) + 10 * (b - 48) + (c - 48)) 255
    then Some ((100 * (a - 48) + 10 * (b - 48) + (c - 48)) ∷ [])
    else None
octet_of (a ∷ b ∷ c ∷ d ∷ more) = None

abbrev pub v4_of : List ℕ → Option (List ℕ)
v4_of text = option_and_then (exactly 4) (read_each octet_of (slice_split (λ byte. byte == 46) text))

-- ---- IPv6: eight groups of four hexadecimal digits in lower case, with a colon between each two (RFC 4291, section 2.2, form 1;
-- that shorter forms are refused is this project's own rule)

abbrev pub hex_digit_of : ℕ → ℕ
hex_digit_of value = if nat_lt value 10 then 48 + value else 87 + value

abbrev pub hex_text : ℕ → List ℕ
hex_text octet = hex_digit_of (octet / 16) ∷ hex_digit_of (octet % 16) ∷ []

-- the groups of each two octets
abbrev pub group_texts : List ℕ → List (List ℕ)
group_texts [] = []
group_texts (a ∷ []) = []
group_texts (a ∷ b ∷ octets) = (hex_text a ++ hex_text b) ∷ group_texts octets

abbrev pub v6_text : List ℕ → List ℕ
v6_text octets = join_with_byte 58 (group_texts octets)

abbrev pub is_hex_digit : ℕ → Bool
is_hex_digit byte = is_ascii_digit byte || is_in_range 97 102 byte

abbrev pub hex_value : ℕ → ℕ
hex_value byte = if nat_lt byte 58 then byte - 48 else byte - 87

-- four hexadecimal digits
abbrev pub group_of : List ℕ → Option (List ℕ)
group_of [] = None
group_of (a ∷ []) = None
group_of (a ∷ b ∷ []) = None
group_of (a ∷ b ∷ c ∷ []) = None
group_of (a ∷ b ∷ c ∷ d ∷ []) =
    if is_hex_digit a && is_hex_digit b && is_hex_digit c && is_hex_digit d
    then Some ((16 * hex_value a + hex_value b) ∷ (16 * hex_value c + hex_value d) ∷ [])
    else None
group_of (a ∷ b ∷ c ∷ d ∷ e ∷ more) = None

abbrev pub v6_of : List ℕ → Option (List ℕ)
v6_of text = option_and_then (exactly 16) (read_each group_of (slice_split (λ byte. byte == 58) text))
