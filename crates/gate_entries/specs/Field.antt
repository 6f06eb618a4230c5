-- Fields: how a value is spelled as bytes, and what bytes read as. Numbers are big-endian; bytes are counted by a number in front
-- of them. While fields are read, a fault is the number of bytes that were left where its field began.
use Rattle.std.specs.Prelude.{◌≡◌, ℕ, zero, suc, ◌<◌, ◌≤◌, ◌^◌, List, [], ◌∷◌, ◌++◌, length, take, drop, find, Bool, true, false, Option, Some, None, Result, Ok, Err, nat_lt, ◌==◌, if◌then◌else◌}
use Rattle.std.specs.List.{flat_map, AllByRecursion}
use Rattle.std.specs.Int.{Width, w8, byte_len, to_be_bytes, from_be_bytes}
use Rattle.gate_entries.specs.declared.fault.FieldFault.{FieldFault}
use Rattle.gate_entries.specs.declared.fault.FieldFault.TheVariants as fields

-- ---- from values to bytes

-- how many bytes there are, and the bytes
abbrev pub counted : Width → List ℕ → List ℕ
counted width bytes = to_be_bytes width (length bytes) ++ bytes

-- a truth value: 0 or 1
abbrev pub truth : Bool → List ℕ
truth value = (if value then 1 else 0) ∷ []

-- how many items there are, and the items
abbrev pub list_bytes : {A : Type 0} → (A → List ℕ) → List A → List ℕ
list_bytes spelling items = to_be_bytes w8 (length items) ++ flat_map spelling items

-- at most 255 items, each with a spelling
pub record AreItems {A : Type 0} (HasSpelling : A → Type 0) (items : List A) : Type 0 where
  pub count : length items < 2 ^ 8
  pub each : AllByRecursion HasSpelling items

-- ---- from bytes to values

infixl 10 ◌>>=◌
abbrev pub ◌>>=◌ : {A B : Type 0} → Result A ℕ → (A → Result B ℕ) → Result B ℕ
(Ok x) >>= f = f x
(Err left) >>= f = Err left

-- a field's value, and the bytes behind it
abbrev pub Read : Type 0 → Type 0
Read A = Result (A × List ℕ) ℕ

-- what a reader answered is what reading gives, unless memory ran out
abbrev pub Fails : {Y : Type 0} → FieldFault → Result Y ℕ → Type 0
Fails fields.NoMemory read = Unit {0}
Fails (fields.Left left) read = read ≡ Err left

abbrev pub Gives : {X Y : Type 0} → (X → Y) → Result X FieldFault → Result Y ℕ → Type 0
Gives view (Ok x) read = read ≡ Ok (view x)
Gives view (Err fault) read = Fails fault read

-- the rest is no longer than the bytes, and a faulty field begins within them
abbrev pub Within : {X : Type 0} → (X → List ℕ) → List ℕ → Result X FieldFault → Type 0
Within rest bytes (Ok x) = length (rest x) ≤ length bytes
Within rest bytes (Err fields.NoMemory) = Unit {0}
Within rest bytes (Err (fields.Left left)) = left ≤ length bytes

-- so many bytes
abbrev pub bytes_at : ℕ → List ℕ → Read (List ℕ)
bytes_at count bytes = if nat_lt (length bytes) count then Err (length bytes) else Ok (take count bytes, drop count bytes)

abbrev pub number_at : Width → List ℕ → Read ℕ
number_at width bytes =
    if nat_lt (length bytes) (byte_len width) then Err (length bytes) else Ok (from_be_bytes width (take (byte_len width) bytes), drop (byte_len width) bytes)

-- a number of bytes and the bytes are one field
abbrev pub bytes_behind : ℕ → ℕ × List ℕ → Read (List ℕ)
bytes_behind left count = if nat_lt (length count.1) count.0 then Err left else Ok (take count.0 count.1, drop count.0 count.1)

unfoldable pub counted_at : Width → List ℕ → Read (List ℕ)
counted_at width bytes = number_at width bytes >>= bytes_behind (length bytes)

unfoldable pub truth_at : List ℕ → Read Bool
truth_at [] = Err 0
truth_at (zero ∷ rest) = Ok (false, rest)
truth_at (suc zero ∷ rest) = Ok (true, rest)
truth_at (suc (suc value) ∷ rest) = Err (suc (length rest))

-- the value with this number, of these
abbrev pub with_number : {A : Type 0} → (A → ℕ) → List A → ℕ → Option A
with_number number_of values number = find (λ value. number == number_of value) values

abbrev pub value_or : {A : Type 0} → ℕ → List ℕ → Option A → Read A
value_or left rest (Some value) = Ok (value, rest)
value_or left rest None = Err left

-- a value that is written by its number
unfoldable pub one_of_at : {A : Type 0} → (A → ℕ) → List A → List ℕ → Read A
one_of_at number_of values [] = Err 0
one_of_at number_of values (number ∷ rest) = value_or (suc (length rest)) rest (with_number number_of values number)

-- so many items, one behind the other
unfoldable pub items_at : {A : Type 0} → (List ℕ → Read A) → ℕ → List ℕ → Read (List A)
items_at reading zero bytes = Ok ([], bytes)
items_at reading (suc count) bytes = do
  first ← reading bytes
  others ← items_at reading count first.1
  Ok (first.0 ∷ others.0, others.1)

-- the number of items is a field of its own
unfoldable pub list_at : {A : Type 0} → (List ℕ → Read A) → List ℕ → Read (List A)
list_at reading bytes = number_at w8 bytes >>= λ count. items_at reading count.0 count.1
