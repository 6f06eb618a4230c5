-- What the header fields of a message say: how long its body is, who sends it, and whether it is the last one.
use Rattle.std.specs.Prelude.{ℕ, List, [], ◌∷◌, length, codes, Bool, true, false, not, ◌&&◌, ◌||◌, Option, Some, None, if◌then◌else◌, nat_le, nat_lt, ⊤, ◌≤◌}
use Rattle.std.specs.List.{list_all}
use Rattle.std.specs.Char.{is_ascii_digit}
use Rattle.std.specs.Option.{is_some}
use Rattle.std.specs.Str.{bytes_eq, str_eq_ignore_ascii_case}
use Rattle.std.specs.Str.Parse.{digits_value}
use Rattle.http_frames.specs.declared.fields.Framing.{Framing}
use Rattle.http_frames.specs.declared.fields.Framing.TheVariants.{Refused, Body}

-- the names and values of header fields, in order
abbrev pub Fields : Type 0
Fields = List (List ℕ × List ℕ)

-- a name and a value
abbrev pub Field : Type 0
Field = List ℕ × List ℕ

-- names are compared without regard to case (RFC 9110, section 5.1)
abbrev pub has_name : List ℕ → Field → Bool
has_name name field = str_eq_ignore_ascii_case name field.0

-- the value of the first field of this name
abbrev pub first_value : List ℕ → Fields → Option (List ℕ)
first_value name [] = None
first_value name (field ∷ fields) = if has_name name field then Some field.1 else first_value name fields

abbrev pub has_field : List ℕ → Fields → Bool
has_field name fields = is_some (first_value name fields)

-- the field has this name, and a value that differs in a byte
abbrev pub differs : List ℕ → List ℕ → Field → Bool
differs name value field = has_name name field && not (bytes_eq value field.1)

abbrev pub some_differs : List ℕ → List ℕ → Fields → Bool
some_differs name value [] = false
some_differs name value (field ∷ fields) = if differs name value field then true else some_differs name value fields

-- the field has this name and this value, without regard to case
abbrev pub agrees : List ℕ → List ℕ → Field → Bool
agrees name value field = has_name name field && str_eq_ignore_ascii_case value field.1

abbrev pub some_agrees : List ℕ → List ℕ → Fields → Bool
some_agrees name value [] = false
some_agrees name value (field ∷ fields) = if agrees name value field then true else some_agrees name value fields

-- 1 to 19 digits
abbrev pub is_size_text : List ℕ → Bool
is_size_text text = nat_le 1 (length text) && nat_le (length text) 19 && list_all is_ascii_digit text

-- how long the body is: 0 where no field says it; None where a content-length is no number, or two differ (RFC 9112, section 6.3)
abbrev pub size_of_values : Option (List ℕ) → Fields → Option ℕ
size_of_values None fields = Some 0
size_of_values (Some text) fields =
    if is_size_text text && not (some_differs (codes "content-length") text fields) then Some (digits_value 10 text) else None

abbrev pub body_size : Fields → Option ℕ
body_size fields = size_of_values (first_value (codes "content-length") fields) fields

-- the body would have to be decoded before it can be read
abbrev pub is_encoded : Fields → Bool
is_encoded fields = has_field (codes "transfer-encoding") fields || has_field (codes "content-encoding") fields

-- a body that no one reads to its end is refused
abbrev pub framing_of_size : Fields → Option ℕ → Framing
framing_of_size fields None = Refused 400
framing_of_size fields (Some size) = if is_encoded fields then Refused 501 else if nat_lt 1048576 size then Refused 413 else Body size

-- the status with which a message is refused whose end isn't known, or the size of its body; the first rule that applies
unfoldable pub framing_of : Fields → Framing
framing_of fields = if nat_lt 64 (length fields) then Refused 400 else framing_of_size fields (body_size fields)

-- a body that is read to its end has at most 1,048,576 bytes
abbrev pub FitsDropped : Framing → Type 0
FitsDropped (Refused status) = ⊤
FitsDropped (Body size) = size ≤ 1048576

-- the token of the caller
abbrev pub token_of : Fields → Option (List ℕ)
token_of = first_value (codes "x-gate-key")

-- the sender closes behind this message (RFC 9112, section 9.6)
abbrev pub is_last : Fields → Bool
is_last = some_agrees (codes "connection") (codes "close")
