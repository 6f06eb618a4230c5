-- What a file says: each member is looked up by its name and has to be of its kind.
use Rattle.std.specs.Prelude.{◌≡◌, ℕ, ◌+◌, ◌==◌, ℤ, Bool, List, [], ◌∷◌, ◌++◌, codes, Option, Some, None, Result, Ok, Err, option_map, if◌then◌else◌}
use Rattle.std.specs.Option.{option_len}
use Rattle.std.specs.Str.{is_utf8}
use Rattle.toml.specs.Data.{Data, string, integer, float, boolean, datetime, array, table, Items, no_items, item, Members, no_members, member, get, as_str, as_integer, as_bool, as_array}
use Rattle.toml.specs.Parse.{parse_document}
use Rattle.gate_base.specs.declared.profile.Role.{Role}
use Rattle.gate_base.specs.declared.profile.Role.TheVariants.{Account, Perspective, Operator}
use Rattle.gate_settings.specs.declared.part.PartFault.{PartFault}
use Rattle.gate_settings.specs.declared.part.PartFault.TheVariants as faults
use Rattle.gate_settings.specs.declared.document.Document.{Document}
use Rattle.gate_settings.specs.declared.document.CaTable.{CaTable}
use Rattle.gate_settings.specs.declared.document.CallerTable.{CallerTable}
use Rattle.gate_settings.specs.declared.document.PerspectiveTable.{PerspectiveTable}
use Rattle.gate_settings.specs.Words.{role_of, region_of}

infixl 10 ◌>>=◌
abbrev pub ◌>>=◌ : {A B : Type 0} → Option A → (A → Option B) → Option B
(Some x) >>= f = f x
None >>= f = None

-- what a function returned, seen by view, is this, and is refused where there is none; out of memory may be returned at any time
abbrev pub Refuses : {Y : Type 0} → PartFault → Option Y → Type 0
Refuses faults.Refused wanted = wanted ≡ None
Refuses faults.NoMemory wanted = Unit {0}

abbrev pub Gives : {X Y : Type 0} → (X → Y) → Result X PartFault → Option Y → Type 0
Gives view (Ok x) wanted = wanted ≡ Some (view x)
Gives view (Err fault) wanted = Refuses fault wanted

-- ---- members

abbrev pub text_at : List ℕ → Data → Option (List ℕ)
text_at name d = get name d >>= as_str

abbrev pub truth_at : List ℕ → Data → Option Bool
truth_at name d = get name d >>= as_bool

abbrev pub array_at : List ℕ → Data → Option Items
array_at name d = get name d >>= as_array

-- how many members a table has
abbrev pub count_of : Members → ℕ
count_of no_members = 0
count_of (member name d others) = count_of others + 1

abbrev pub member_count : Data → ℕ
member_count (string text) = 0
member_count (integer number) = 0
member_count (float number) = 0
member_count (boolean truth) = 0
member_count (datetime moment) = 0
member_count (array items) = 0
member_count (table members) = count_of members

-- A value that was read from so many members of a table, if the table has no other: it has each name once, so a
-- strange member is one too many.
abbrev pub exactly : {A : Type 0} → ℕ → Data → A → Option A
exactly count d x = if member_count d == count then Some x else None

-- what each of some items is
abbrev pub each : {A : Type 0} → (Data → Option A) → Items → Option (List A)
each read no_items = Some []
each read (item d others) = do
  x ← read d
  xs ← each read others
  Some (x ∷ xs)

-- values in front of what others give
abbrev pub before_each : {A : Type 0} → List A → Option (List A) → Option (List A)
before_each front None = None
before_each front (Some others) = Some (front ++ others)

-- ---- tables

unfoldable pub ca_of : Data → Option CaTable
ca_of d = do
  issuer ← text_at (codes "issuer") d
  algorithm ← text_at (codes "algorithm") d
  key_id ← text_at (codes "key_id") d
  crl ← text_at (codes "crl") d
  aia ← text_at (codes "aia") d
  exactly 5 d (record { issuer = issuer; algorithm = algorithm; key_id = key_id; crl = crl; aia = aia })

unfoldable pub suffixes_of : Data → Option (List ℕ)
suffixes_of d = do
  rules ← text_at (codes "rules") d
  exactly 1 d rules

-- an account may have a thumb, and no other caller
abbrev pub thumb_in : Option Role → Option Data → Option (Option (List ℕ))
thumb_in role None = Some None
thumb_in (Some Account) (Some d) = option_map Some (as_str d)
thumb_in (Some Perspective) (Some d) = None
thumb_in (Some Operator) (Some d) = None
thumb_in None (Some d) = None

unfoldable pub caller_of : Data → Option CallerTable
caller_of d = do
  id ← text_at (codes "id") d
  role ← text_at (codes "role") d
  token ← text_at (codes "token") d
  thumb ← thumb_in (role_of role) (get (codes "thumb") d)
  exactly (3 + option_len thumb) d (record { id = id; role = role_of role; token = token; thumb = thumb })

-- three coordinates
abbrev pub place_of : List ℤ → Option (ℤ × ℤ × ℤ)
place_of [] = None
place_of (x ∷ []) = None
place_of (x ∷ y ∷ []) = None
place_of (x ∷ y ∷ z ∷ []) = Some (x, y, z)
place_of (x ∷ y ∷ z ∷ w ∷ others) = None

unfoldable pub place_at : Data → Option (ℤ × ℤ × ℤ)
place_at d = do
  items ← array_at (codes "at") d
  numbers ← each as_integer items
  place_of numbers

unfoldable pub perspective_of : Data → Option PerspectiveTable
perspective_of d = do
  id ← text_at (codes "id") d
  primary ← truth_at (codes "primary") d
  region ← text_at (codes "region") d
  place ← place_at d
  exactly 4 d (record { id = id; primary = primary; region = region_of region; x = place.0; y = place.1; z = place.2 })

unfoldable pub texts_at : List ℕ → Data → Option (List (List ℕ))
texts_at name d = do
  items ← array_at name d
  each as_str items

unfoldable pub callers_at : List ℕ → Data → Option (List CallerTable)
callers_at name d = do
  items ← array_at name d
  each caller_of items

unfoldable pub perspectives_at : List ℕ → Data → Option (List PerspectiveTable)
perspectives_at name d = do
  items ← array_at name d
  each perspective_of items

unfoldable pub table_of : Data → Option Document
table_of d = do
  issuers ← texts_at (codes "issuers") d
  ca_data ← get (codes "ca") d
  ca ← ca_of ca_data
  suffix_data ← get (codes "suffixes") d
  rules ← suffixes_of suffix_data
  callers ← callers_at (codes "callers") d
  perspectives ← perspectives_at (codes "perspectives") d
  exactly 5 d (record { issuers = issuers; ca = ca; rules = rules; callers = callers; perspectives = perspectives })

-- ---- the file

-- the members that a text has (toml.io, version 1.1): it has to be UTF-8
unfoldable pub toml_of : List ℕ → Option Members
toml_of bytes = if is_utf8 bytes then parse_document bytes else None

-- what the file says
unfoldable pub document_of : List ℕ → Option Document
document_of bytes = do
  members ← toml_of bytes
  table_of (table members)
