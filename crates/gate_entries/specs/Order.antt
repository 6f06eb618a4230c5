-- An order's entry: key, common name or none, days, targets, request.
use Rattle.std.specs.Prelude.{ℕ, ◌<◌, ◌^◌, List, ◌++◌, length, Bool, Ok}
use Rattle.std.specs.Int.{w8, w16, to_be_bytes}
use Rattle.gate_base.specs.declared.name.Target.{Target}
use Rattle.gate_entries.specs.declared.entry.What.{What}
use Rattle.gate_entries.specs.declared.entry.What.TheVariants.{Order}
use Rattle.gate_entries.specs.Field.{counted, truth, list_bytes, ◌>>=◌, Read, number_at, counted_at, truth_at, list_at}
use Rattle.gate_entries.specs.Target.{target_bytes, AreTargets, target_at}

abbrev pub order_bytes : List ℕ → Bool → ℕ → List Target → List ℕ → List ℕ
order_bytes key common days targets request =
    counted w8 key ++ truth common ++ to_be_bytes w16 days ++ list_bytes target_bytes targets ++ counted w16 request

pub record IsOrder (key : List ℕ) (days : ℕ) (targets : List Target) (request : List ℕ) : Type 0 where
  pub key_fits : length key < 2 ^ 8
  pub days_fit : days < 2 ^ 16
  pub are_targets : AreTargets targets
  pub request_fits : length request < 2 ^ 16

unfoldable pub order_at : List ℕ → Read What
order_at bytes = do
  key ← counted_at w8 bytes
  common ← truth_at key.1
  days ← number_at w16 common.1
  targets ← list_at target_at days.1
  request ← counted_at w16 targets.1
  Ok (Order key.0 common.0 days.0 targets.0 request.0, request.1)
