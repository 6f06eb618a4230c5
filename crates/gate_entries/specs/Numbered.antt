-- The entries of what is sent to the signer and of its signature: the order's number, and bytes.
use Rattle.std.specs.Prelude.{ℕ, ◌<◌, ◌^◌, List, ◌++◌, length, Ok}
use Rattle.std.specs.Int.{w16, w64, to_be_bytes}
use Rattle.gate_entries.specs.declared.entry.What.{What}
use Rattle.gate_entries.specs.declared.entry.What.TheVariants.{Send, Signed}
use Rattle.gate_entries.specs.Field.{counted, ◌>>=◌, Read, number_at, counted_at}

abbrev pub numbered_bytes : ℕ → List ℕ → List ℕ
numbered_bytes order bytes = to_be_bytes w64 order ++ counted w16 bytes

abbrev pub IsNumbered : ℕ → List ℕ → Type 0
IsNumbered order bytes = (order < 2 ^ 64) × (length bytes < 2 ^ 16)

unfoldable pub send_at : List ℕ → Read What
send_at bytes = do
  order ← number_at w64 bytes
  body ← counted_at w16 order.1
  Ok (Send order.0 body.0, body.1)

unfoldable pub signed_at : List ℕ → Read What
signed_at bytes = do
  order ← number_at w64 bytes
  signature ← counted_at w16 order.1
  Ok (Signed order.0 signature.0, signature.1)
