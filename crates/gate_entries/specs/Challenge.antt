-- A challenge's entry: key, order, method, target, value, thumbprint.
use Rattle.std.specs.Prelude.{◌≡◌, ℕ, ◌<◌, ◌^◌, List, [], ◌∷◌, ◌++◌, length, Bool, true, Option, Ok, Err, ◌==◌, if◌then◌else◌}
use Rattle.std.specs.Int.{w8, w64, to_be_bytes}
use Rattle.gate_base.specs.declared.name.Target.{Target}
use Rattle.gate_base.specs.declared.seen.Method.{Method}
use Rattle.gate_base.specs.declared.seen.Method.TheVariants.{DnsChange, WebChange, AcmeHttp}
use Rattle.gate_base.specs.declared.sixteen.Sixteen.{Sixteen}
use Rattle.gate_entries.specs.declared.entry.What.{What}
use Rattle.gate_entries.specs.declared.entry.What.TheVariants.{Challenge}
use Rattle.gate_entries.specs.Field.{counted, ◌>>=◌, Read, bytes_at, number_at, counted_at, with_number, one_of_at}
use Rattle.gate_entries.specs.Target.{target_bytes, IsTarget, target_at}

-- ---- methods

abbrev pub method_number : Method → ℕ
method_number DnsChange = 1
method_number WebChange = 2
method_number AcmeHttp = 3

abbrev pub methods : List Method
methods = DnsChange ∷ WebChange ∷ AcmeHttp ∷ []

-- the method with this number
abbrev pub method_with : ℕ → Option Method
method_with number = with_number method_number methods number

abbrev pub method_at : List ℕ → Read Method
method_at bytes = one_of_at method_number methods bytes

-- ---- thumbprints

-- the thumbprint of an account's key stands with AcmeHttp alone
abbrev pub is_thumb_of : Method → List ℕ → Bool
is_thumb_of DnsChange thumb = length thumb == 0
is_thumb_of WebChange thumb = length thumb == 0
is_thumb_of AcmeHttp thumb = true

abbrev pub thumb_behind : Method → ℕ → List ℕ × List ℕ → Read (List ℕ)
thumb_behind method left thumb = if is_thumb_of method thumb.0 then Ok thumb else Err left

unfoldable pub thumb_at : Method → List ℕ → Read (List ℕ)
thumb_at method bytes = counted_at w8 bytes >>= thumb_behind method (length bytes)

-- ---- the entry

abbrev pub challenge_bytes : List ℕ → ℕ → Method → Target → Sixteen → List ℕ → List ℕ
challenge_bytes key order method target value thumb =
    counted w8 key ++ to_be_bytes w64 order ++ (method_number method ∷ []) ++ target_bytes target ++ value.0 ++ counted w8 thumb

pub record IsChallenge (key : List ℕ) (order : ℕ) (method : Method) (target : Target) (value : Sixteen) (thumb : List ℕ) : Type 0 where
  pub key_fits : length key < 2 ^ 8
  pub order_fits : order < 2 ^ 64
  pub is_target : IsTarget target
  pub value_size : length value.0 ≡ 16
  pub thumb_fits : length thumb < 2 ^ 8
  pub is_thumb : is_thumb_of method thumb ≡ true

unfoldable pub challenge_at : List ℕ → Read What
challenge_at bytes = do
  key ← counted_at w8 bytes
  order ← number_at w64 key.1
  method ← method_at order.1
  target ← target_at method.1
  value ← bytes_at 16 target.1
  thumb ← thumb_at method.0 value.1
  Ok (Challenge key.0 order.0 method.0 target.0 (record { 0 = value.0 }) thumb.0, thumb.1)
