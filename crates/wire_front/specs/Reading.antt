-- What the readers of a message's parts answer.
use Rattle.std.specs.Prelude.{◌≡◌, ◌≢◌, ℕ, ◌≤◌, ◌<◌, ◌^◌, ◌-◌, List, [], ◌∷◌, ◌++◌, length, take, drop, codes, Bool, false, not, ◌&&◌, Option, Some, None, ◌==◌, if◌then◌else◌, nat_eq, IsTrue}
use Rattle.std.specs.Option.{option_map}
use Rattle.std.specs.List.{list_all}
use Rattle.std.specs.Cmp.Lexicographic.{pointwise}
use Rattle.std.specs.Fmt.{decimal}
use Rattle.std.specs.Str.Parse.{digits_value}
use Rattle.base64.specs.GeneralPurpose.{encode_of}
use Rattle.base64.specs.Engines.{standard}
use Rattle.gate_base.specs.declared.name.Target.{Target}
use Rattle.gate_entries.specs.declared.command.Command.{Command}
use Rattle.gate_entries.specs.declared.command.Command.TheVariants.{Order}
use Rattle.wire_front.specs.declared.cutting.Absent.{Absent}
use Rattle.wire_front.specs.declared.cutting.Absent.TheVariants as absents
use Rattle.wire_front.specs.declared.message.Found.{Found}
use Rattle.wire_front.specs.declared.message.Found.TheVariants as found
use Rattle.wire_front.specs.Message.{domain_text, quoted, names_text, framed, is_digit, is_order_number, IsDomain, AsksOrder, AsksFinalize, BeginsWith}

-- no order stands at the front
abbrev pub HasNoOrder : List ℕ → Type 0
HasNoOrder bytes = (message rest : List ℕ) (command : Command) → AsksOrder message command → bytes ≢ message ++ rest

-- what is told of orders alone
abbrev pub TellsOrder : List ℕ → Found → Type 0
TellsOrder bytes (found.Message command left) = BeginsWith bytes command left
TellsOrder bytes found.More = HasNoOrder bytes
TellsOrder bytes found.Never = (1 ≤ length bytes) × ((more : List ℕ) → HasNoOrder (bytes ++ more))
TellsOrder bytes found.NoMemory = Unit {0}

-- the value that a text spells, or that it spells none
abbrev pub Reads : {A B : Type 0} → (A → B) → (A → Type 0) → B → Option A → Type 0
Reads spell Fits text (Some value) = Fits value × (text ≡ spell value)
Reads {A = A} spell Fits text None = (value : A) → Fits value → text ≢ spell value

-- nothing such stands at the front so far, or nothing such ever will
abbrev pub IsAbsent : (List ℕ → Type 0) → List ℕ → Absent → Type 0
IsAbsent Begins bytes absents.SoFar = Begins bytes → ⊥
IsAbsent Begins bytes absents.ForGood = (more : List ℕ) → Begins (bytes ++ more) → ⊥

-- ---- cutting

pub record StartsWith (text bytes : List ℕ) : Type 0 where
  pub rest : List ℕ
  pub whole : bytes ≡ text ++ rest

-- a number from 1 on; digits without a leading zero
abbrev pub IsNumber : ℕ → Type 0
IsNumber number = (1 ≤ number) × (number < 2 ^ 64)

abbrev pub is_numeral : List ℕ → Bool
is_numeral [] = false
is_numeral (first ∷ digits) = not (first == 48) && list_all is_digit (first ∷ digits)

-- a body's size
abbrev pub IsSize : ℕ → Type 0
IsSize size = (1 ≤ size) × (size ≤ 65536)

-- a size in decimal, and a carriage return
pub record StartsWithSize (bytes : List ℕ) : Type 0 where
  pub size : ℕ
  pub rest : List ℕ
  pub is : IsSize size
  pub whole : bytes ≡ decimal size ++ 13 ∷ rest

-- a body behind its head
pub record StartsWithFrame (bytes : List ℕ) : Type 0 where
  pub body : List ℕ
  pub rest : List ℕ
  pub is : IsSize (length body)
  pub whole : bytes ≡ framed body ++ rest

-- an order's number with a slash behind it, and what stands behind that
pub record ReadsNumber (bytes : List ℕ) (order : ℕ) (rest : List ℕ) : Type 0 where
  pub digits : List ℕ
  pub are : IsTrue (is_order_number digits)
  pub number : order ≡ digits_value 10 digits
  pub whole : bytes ≡ digits ++ 47 ∷ rest

pub record StartsWithNumber (bytes : List ℕ) : Type 0 where
  pub order : ℕ
  pub rest : List ℕ
  pub reads : ReadsNumber bytes order rest

-- a message that finalizes the order, and what stands behind it
pub record ReadsFinalize (bytes : List ℕ) (order : ℕ) (rest : List ℕ) : Type 0 where
  pub message : List ℕ
  pub asks : AsksFinalize message order
  pub whole : bytes ≡ message ++ rest

pub record StartsWithFinalize (bytes : List ℕ) : Type 0 where
  pub order : ℕ
  pub rest : List ℕ
  pub reads : ReadsFinalize bytes order rest

abbrev pub with_first : ℕ → List ℕ × List ℕ → List ℕ × List ℕ
with_first byte parts = (byte ∷ parts.0, parts.1)

-- what stands before the first such byte, and behind it
abbrev pub until_at : ℕ → List ℕ → Option (List ℕ × List ℕ)
until_at byte [] = None
until_at byte (first ∷ bytes) = if first == byte then Some ([], bytes) else option_map (with_first first) (until_at byte bytes)

-- what stands behind a text at the front, and before a text at the end
abbrev pub behind : List ℕ → List ℕ → Option (List ℕ)
behind text bytes = if pointwise nat_eq (take (length text) bytes) text then Some (drop (length text) bytes) else None

abbrev pub before : List ℕ → List ℕ → Option (List ℕ)
before text bytes =
    if pointwise nat_eq (drop (length bytes - length text) bytes) text then Some (take (length bytes - length text) bytes) else None

infixl 10 ◌>>=◌
abbrev pub ◌>>=◌ : {A B : Type 0} → Option A → (A → Option B) → Option B
(Some x) >>= f = f x
None >>= f = None

-- what stands between a text at the front and the first such byte, and behind that byte
unfoldable pub field_at : List ℕ → ℕ → List ℕ → Option (List ℕ × List ℕ)
field_at text end bytes = behind text bytes >>= until_at end

-- ---- a body's members

-- days, key, names and request
abbrev pub Texts : Type 0
Texts = List ℕ × List ℕ × List ℕ × List ℕ

unfoldable pub members_at : List ℕ → Option Texts
members_at body = do
  days ← field_at (codes "{\"common\":false,\"days\":") 44 body
  key ← field_at (codes "\"key\":\"") 34 days.1
  names ← field_at (codes ",\"names\":[") 93 key.1
  rest ← behind (codes ",\"request\":\"") names.1
  request ← before (codes "\"}") rest
  Some (days.0, key.0, names.0, request)

abbrev pub texts_of : Command → Texts
texts_of (Order key targets days common request) = (decimal days, key, names_text targets, encode_of standard request)
texts_of command = ([], [], [], [])

-- ---- names

-- a name in quotes at the front, and what stands behind it
abbrev pub ReadsQuoted : List ℕ → Option (Target × List ℕ) → Type 0
ReadsQuoted bytes (Some found) = IsDomain found.0 × (bytes ≡ quoted (domain_text found.0) ++ found.1)
ReadsQuoted bytes None = (target : Target) (rest : List ℕ) → IsDomain target → bytes ≢ quoted (domain_text target) ++ rest
