-- Who may call: the rows that the callers' tables give, each judged after those before it.
use Rattle.std.specs.Prelude.{◌≡◌, ◌⊎◌, ℕ, ◌+◌, ◌<◌, ◌≤◌, ◌==◌, Bool, true, false, not, ◌&&◌, ◌||◌, List, [], ◌∷◌, ◌++◌, length, nat_le, Option, Some, None, option_map, unwrap_or, Result, Ok, Err, if◌then◌else◌}
use Rattle.std.specs.List.{list_all, list_any, find, slice_get}
use Rattle.std.specs.Str.{bytes_eq}
use Rattle.std.specs.Char.{is_ascii_alphanumeric}
use Rattle.gate_base.specs.declared.profile.Role.{Role}
use Rattle.gate_base.specs.declared.profile.Role.TheVariants.{Account, Perspective, Operator}
use Rattle.cert_fields.specs.Profile.{is_visible}
use Rattle.gate_settings.specs.declared.document.CallerTable.{CallerTable}
use Rattle.gate_settings.specs.declared.document.PerspectiveTable.{PerspectiveTable}
use Rattle.gate_settings.specs.declared.row.CallerRow.{CallerRow}

-- an id or a token
abbrev pub is_word : List ℕ → Bool
is_word text = nat_le 1 (length text) && nat_le (length text) 64 && list_all is_visible text

-- the alphabet of base64url (RFC 4648, section 5)
abbrev pub is_base64url : ℕ → Bool
is_base64url byte = is_ascii_alphanumeric byte || byte == 45 || byte == 95

-- the thumbprint of a key (RFC 7638) with SHA-256, in base64url without padding, has 43 characters; whether it is what 32 bytes
-- encode to is not judged
abbrev pub is_thumb : List ℕ → Bool
is_thumb text = length text == 43 && list_all is_base64url text

abbrev pub has_good_thumb : Option (List ℕ) → Bool
has_good_thumb None = true
has_good_thumb (Some text) = is_thumb text

-- another caller's table has the id or the token
abbrev pub is_taken : List CallerTable → CallerTable → Bool
is_taken before caller = list_any (λ other. bytes_eq other.id caller.id || bytes_eq other.token caller.token) before

-- some perspective has this id
abbrev pub is_member : List PerspectiveTable → List ℕ → Bool
is_member perspectives id = list_any (λ p. bytes_eq p.id id) perspectives

-- the role is known, and a perspective's caller is one of the perspectives
abbrev pub has_good_role : List PerspectiveTable → Option Role → List ℕ → Bool
has_good_role perspectives None id = false
has_good_role perspectives (Some Account) id = true
has_good_role perspectives (Some Perspective) id = is_member perspectives id
has_good_role perspectives (Some Operator) id = true

-- the caller keeps every rule; before stand the tables before its own
abbrev pub is_good : List PerspectiveTable → List CallerTable → CallerTable → Bool
is_good perspectives before caller =
    is_word caller.id && is_word caller.token && not (is_taken before caller) && has_good_thumb caller.thumb
    && has_good_role perspectives caller.role caller.id

-- an account without a thumb has an empty one
abbrev pub row_with : CallerTable → Role → CallerRow
row_with caller role = record { token = caller.token; id = caller.id; role = role; thumb = unwrap_or caller.thumb [] }

-- the row of a caller that keeps every rule
abbrev pub row_of : List PerspectiveTable → List CallerTable → CallerTable → Option CallerRow
row_of perspectives before caller =
    if is_good perspectives before caller then option_map (row_with caller) caller.role else None

-- a row in front of others, or the place of a caller that has none, counted from 1
abbrev pub row_before : ℕ → Option CallerRow → Result (List CallerRow) ℕ → Result (List CallerRow) ℕ
row_before place None rows = Err place
row_before place (Some row) (Ok rows) = Ok (row ∷ rows)
row_before place (Some row) (Err other) = Err other

abbrev pub rows_from : List PerspectiveTable → List CallerTable → List CallerTable → Result (List CallerRow) ℕ
rows_from perspectives before [] = Ok []
rows_from perspectives before (caller ∷ callers) =
    row_before (length before + 1) (row_of perspectives before caller) (rows_from perspectives (before ++ caller ∷ []) callers)

-- an id and a token of 1 to 64 bytes, and a thumbprint that is empty or has 43
pub record IsShortRow (row : CallerRow) : Type 0 where
  pub id_some : 1 ≤ length row.id
  pub id_short : length row.id ≤ 64
  pub token_some : 1 ≤ length row.token
  pub token_short : length row.token ≤ 64
  pub thumb : (row.thumb ≡ []) ⊎ (length row.thumb ≡ 43)

-- the rows of all callers, or the place of the first that offends
unfoldable pub rows_of : List PerspectiveTable → List CallerTable → Result (List CallerRow) ℕ
rows_of perspectives callers = rows_from perspectives [] callers

-- rows in front of others
abbrev pub rows_then : List CallerRow → Result (List CallerRow) ℕ → Result (List CallerRow) ℕ
rows_then front (Ok rows) = Ok (front ++ rows)
rows_then front (Err place) = Err place

-- the row with this token, and that with this id
abbrev pub with_token : List ℕ → List CallerRow → Option CallerRow
with_token token rows = find (λ row. bytes_eq row.token token) rows

abbrev pub with_id : List ℕ → List CallerRow → Option CallerRow
with_id id rows = find (λ row. bytes_eq row.id id) rows

-- ---- which row is found

-- the row stands at a place, this holds of it, and of no row before it
pub record IsFirstRow (Wanted : CallerRow → Type 0) (rows : List CallerRow) (row : CallerRow) : Type 0 where
  pub place : ℕ
  pub here : slice_get rows place ≡ Some row
  pub is : Wanted row
  pub first : (i : ℕ) (other : CallerRow) → i < place → slice_get rows i ≡ Some other → ¬ (Wanted other)

-- this holds of no row
pub record IsOfNoRow (Wanted : CallerRow → Type 0) (rows : List CallerRow) : Type 0 where
  pub none : (i : ℕ) (row : CallerRow) → slice_get rows i ≡ Some row → ¬ (Wanted row)

abbrev pub HasToken : List ℕ → CallerRow → Type 0
HasToken token row = row.token ≡ token

abbrev pub HasId : List ℕ → CallerRow → Type 0
HasId id row = row.id ≡ id
