-- The entry of a blocked key: the retry key and the key.
use Rattle.std.specs.Prelude.{ℕ, ◌<◌, ◌^◌, List, ◌++◌, length, Ok}
use Rattle.std.specs.Int.{w8, w16}
use Rattle.gate_entries.specs.declared.entry.What.{What}
use Rattle.gate_entries.specs.declared.entry.What.TheVariants.{Blocked}
use Rattle.gate_entries.specs.Field.{counted, ◌>>=◌, Read, counted_at}

abbrev pub blocked_bytes : List ℕ → List ℕ → List ℕ
blocked_bytes key spki = counted w8 key ++ counted w16 spki

abbrev pub IsBlocked : List ℕ → List ℕ → Type 0
IsBlocked key spki = (length key < 2 ^ 8) × (length spki < 2 ^ 16)

unfoldable pub blocked_at : List ℕ → Read What
blocked_at bytes = do
  key ← counted_at w8 bytes
  spki ← counted_at w16 key.1
  Ok (Blocked key.0 spki.0, spki.1)
