-- The entry of CAA answers: key, order, target, when they were asked for, and the answers.
use Rattle.std.specs.Prelude.{ℕ, zero, suc, ◌<◌, ◌^◌, List, [], ◌∷◌, ◌++◌, length, Ok, Err}
use Rattle.std.specs.Int.{w8, w16, w32, w64, to_be_bytes}
use Rattle.gate_base.specs.declared.name.Target.{Target}
use Rattle.gate_base.specs.declared.seen.CaaAnswer.{CaaAnswer}
use Rattle.gate_base.specs.declared.seen.CaaAnswer.TheVariants.{Failed, Set}
use Rattle.gate_base.specs.declared.seen.CaaRow.{CaaRow}
use Rattle.gate_base.specs.declared.seen.CaaSeen.{CaaSeen}
use Rattle.gate_entries.specs.declared.entry.What.{What}
use Rattle.gate_entries.specs.declared.entry.What.TheVariants as whats
use Rattle.gate_entries.specs.Field.{counted, list_bytes, AreItems, ◌>>=◌, Read, number_at, counted_at, list_at}
use Rattle.gate_entries.specs.Target.{target_bytes, IsTarget, target_at}

-- ---- answers

-- a record: its flags, tag and value (RFC 8659, section 4.1)
abbrev pub row_bytes : CaaRow → List ℕ
row_bytes row = to_be_bytes w8 row.flags ++ counted w8 row.tag ++ counted w16 row.value

-- 0 for a question that was not answered; 1, the time to live and the records that were found
abbrev pub answer_bytes : CaaAnswer → List ℕ
answer_bytes Failed = 0 ∷ []
answer_bytes (Set ttl rows) = 1 ∷ (to_be_bytes w32 ttl ++ list_bytes row_bytes rows)

pub record IsRow (row : CaaRow) : Type 0 where
  pub flags_fit : row.flags < 2 ^ 8
  pub tag_fits : length row.tag < 2 ^ 8
  pub value_fits : length row.value < 2 ^ 16

abbrev pub IsAnswer : CaaAnswer → Type 0
IsAnswer Failed = Unit {0}
IsAnswer (Set ttl rows) = (ttl < 2 ^ 32) × AreItems IsRow rows

unfoldable pub row_at : List ℕ → Read CaaRow
row_at bytes = do
  flags ← number_at w8 bytes
  tag ← counted_at w8 flags.1
  value ← counted_at w16 tag.1
  Ok (record { flags = flags.0; tag = tag.0; value = value.0 }, value.1)

unfoldable pub set_at : List ℕ → Read CaaAnswer
set_at bytes = do
  ttl ← number_at w32 bytes
  rows ← list_at row_at ttl.1
  Ok (Set ttl.0 rows.0, rows.1)

unfoldable pub answer_at : List ℕ → Read CaaAnswer
answer_at [] = Err 0
answer_at (zero ∷ rest) = Ok (Failed, rest)
answer_at (suc zero ∷ rest) = set_at rest
answer_at (suc (suc kind) ∷ rest) = Err (suc (length rest))

-- ---- the entry

abbrev pub caa_bytes : List ℕ → ℕ → Target → ℕ → CaaSeen → List ℕ
caa_bytes key order target moment caa =
    counted w8 key ++ to_be_bytes w64 order ++ target_bytes target ++ to_be_bytes w64 moment ++ list_bytes answer_bytes caa.answers

pub record IsCaa (key : List ℕ) (order : ℕ) (target : Target) (moment : ℕ) (caa : CaaSeen) : Type 0 where
  pub key_fits : length key < 2 ^ 8
  pub order_fits : order < 2 ^ 64
  pub is_target : IsTarget target
  pub moment_fits : moment < 2 ^ 64
  pub are_answers : AreItems IsAnswer caa.answers

unfoldable pub caa_at : List ℕ → Read What
caa_at bytes = do
  key ← counted_at w8 bytes
  order ← number_at w64 key.1
  target ← target_at order.1
  moment ← number_at w64 target.1
  answers ← list_at answer_at moment.1
  Ok (whats.CaaAnswer key.0 order.0 target.0 moment.0 (record { answers = answers.0 }), answers.1)
