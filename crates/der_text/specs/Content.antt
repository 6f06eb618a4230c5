-- What the content of an element may be, by its tag. The sections are those of X.690; RFC 5280 (4.1) asks for its DER.
use Rattle.std.specs.Prelude.{ℕ, ◌%◌, ◌/◌, ◌^◌, List, [], ◌∷◌, Bool, true, false, not, ◌&&◌, ◌||◌, nat_lt, ◌==◌, if◌then◌else◌}

-- the tag has its constructed bit, the one with the value 20 hexadecimal (8.1.2.5)
abbrev pub is_constructed : ℕ → Bool
is_constructed tag = (tag / 32) % 2 == 1

-- a BOOLEAN is one byte, 00 or ff (8.2, 11.1)
abbrev pub is_boolean : List ℕ → Bool
is_boolean [] = false
is_boolean (b ∷ []) = (b == 0) || (b == 255)
is_boolean (b ∷ c ∷ rest) = false

-- an INTEGER has bytes, and the first nine bits of several are not all equal (8.3)
abbrev pub is_integer : List ℕ → Bool
is_integer [] = false
is_integer (b ∷ []) = true
is_integer (b ∷ c ∷ rest) = not ((b == 0) && nat_lt c 128) && not ((b == 255) && nat_lt 127 c)

-- the last of some bytes
abbrev pub last_of : ℕ → List ℕ → ℕ
last_of b [] = b
last_of b (c ∷ rest) = last_of c rest

-- a BIT STRING begins with the number of its unused bits, 0 where it has no bits, and these bits are zero (8.6, 11.2)
abbrev pub is_bit_string : List ℕ → Bool
is_bit_string [] = false
is_bit_string (unused ∷ []) = unused == 0
is_bit_string (unused ∷ b ∷ rest) = nat_lt unused 8 && (last_of b rest % 2 ^ unused == 0)

-- a NULL is empty (8.8.2)
abbrev pub is_null : List ℕ → Bool
is_null [] = true
is_null (b ∷ rest) = false

-- behind a byte the bytes end with an arc's last one, which is below 80 hexadecimal, and no arc begins with 80
abbrev pub ends_arcs : ℕ → List ℕ → Bool
ends_arcs before [] = nat_lt before 128
ends_arcs before (b ∷ rest) = not (nat_lt before 128 && (b == 128)) && ends_arcs b rest

-- an OBJECT IDENTIFIER has bytes, which are whole arcs (8.19)
abbrev pub is_object_identifier : List ℕ → Bool
is_object_identifier [] = false
is_object_identifier (b ∷ rest) = not (b == 128) && ends_arcs b rest

-- The rule of a primitive universal type: 00 is none, and SEQUENCE and SET are constructed (8.9, 8.11).
-- Other contents are not judged.
unfoldable pub is_primitive_content : ℕ → List ℕ → Bool
is_primitive_content tag content =
    if tag == 0 then false else if tag == 1 then is_boolean content else if tag == 2 then is_integer content else
    if tag == 3 then is_bit_string content else if tag == 5 then is_null content else
    if tag == 6 then is_object_identifier content else not ((tag == 16) || (tag == 17))

-- The rule of a tag: string types are primitive (10.2). DER has other constructed universal types than SEQUENCE and SET, such as
-- EXTERNAL; refusing them is this project's own rule.
-- The contents of other classes, and the order in a SET, are not judged.
unfoldable pub keeps_rule : ℕ → List ℕ → Bool
keeps_rule tag content =
    if nat_lt tag 32 then is_primitive_content tag content else
    if nat_lt tag 64 then (tag == 48) || (tag == 49) else true
