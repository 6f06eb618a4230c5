-- Reading an entry from left to right, with the first field that is cut off or breaks a rule.
use Rattle.std.specs.Prelude.{◌≡◌, ℕ, ◌-◌, List, length, Bool, true, Result, Ok, Err, nat_lt, ◌==◌, if◌then◌else◌}
use Rattle.std.specs.Int.{w16, w32, w64}
use Rattle.gate_entries.specs.declared.entry.Entry.{Entry}
use Rattle.gate_entries.specs.declared.entry.What.{What}
use Rattle.gate_entries.specs.declared.entry.What.TheVariants as whats
use Rattle.gate_entries.specs.declared.fault.EntryRead.{EntryRead}
use Rattle.gate_entries.specs.declared.fault.EntryRead.TheVariants as reads
use Rattle.gate_entries.specs.declared.kind.Kind.{Kind}
use Rattle.gate_entries.specs.declared.kind.Kind.TheVariants.{Settings, Order, Challenge, Observation, CaaAnswer, Send, Signed, Blocked}
use Rattle.gate_entries.specs.Field.{◌>>=◌, Read, number_at, counted_at}
use Rattle.gate_entries.specs.Kind.{kind_at}
use Rattle.gate_entries.specs.Order.{order_at}
use Rattle.gate_entries.specs.Challenge.{challenge_at}
use Rattle.gate_entries.specs.Observation.{observation_at}
use Rattle.gate_entries.specs.CaaAnswer.{caa_at}
use Rattle.gate_entries.specs.Numbered.{send_at, signed_at}
use Rattle.gate_entries.specs.Blocked.{blocked_at}
use Rattle.gate_entries.specs.Spelling.{most_bytes}

unfoldable pub settings_at : List ℕ → Read What
settings_at bytes = counted_at w32 bytes >>= λ settings. Ok (whats.Settings settings.0, settings.1)

-- the fields of a kind
unfoldable pub what_at : Kind → List ℕ → Read What
what_at Settings bytes = settings_at bytes
what_at Order bytes = order_at bytes
what_at Challenge bytes = challenge_at bytes
what_at Observation bytes = observation_at bytes
what_at CaaAnswer bytes = caa_at bytes
what_at Send bytes = send_at bytes
what_at Signed bytes = signed_at bytes
what_at Blocked bytes = blocked_at bytes

-- the caller, who is nobody for settings
abbrev pub is_caller_of : Kind → List ℕ → Bool
is_caller_of Settings caller = length caller == 0
is_caller_of kind caller = true

abbrev pub caller_behind : Kind → ℕ → List ℕ × List ℕ → Read (List ℕ)
caller_behind kind left caller = if is_caller_of kind caller.0 then Ok caller else Err left

unfoldable pub caller_at : Kind → List ℕ → Read (List ℕ)
caller_at kind bytes = counted_at w16 bytes >>= caller_behind kind (length bytes)

unfoldable pub fields_at : List ℕ → Read Entry
fields_at bytes = do
  kind ← kind_at bytes
  number ← number_at w64 kind.1
  moment ← number_at w64 number.1
  caller ← caller_at kind.0 moment.1
  what ← what_at kind.0 caller.1
  Ok (record { number = number.0; moment = record { 0 = moment.0 }; caller = caller.0; what = what.0 }, what.1)

-- all of the bytes
abbrev pub with_no_rest : Entry × List ℕ → Result Entry ℕ
with_no_rest read = if length read.1 == 0 then Ok read.0 else Err (length read.1)

unfoldable pub whole_entry : List ℕ → Result Entry ℕ
whole_entry bytes = if nat_lt most_bytes (length bytes) then Err (length bytes) else (fields_at bytes >>= with_no_rest)

-- what the bytes are: an entry, or the place where the first bad field begins
abbrev pub place_in : ℕ → Result Entry ℕ → Result Entry ℕ
place_in total (Ok entry) = Ok entry
place_in total (Err left) = Err (total - left)

unfoldable pub entry_of : List ℕ → Result Entry ℕ
entry_of bytes = place_in (length bytes) (whole_entry bytes)

abbrev pub TellsEntry : Result Entry ℕ → Result Entry EntryRead → Type 0
TellsEntry read (Ok entry) = read ≡ Ok entry
TellsEntry read (Err reads.NoMemory) = Unit {0}
TellsEntry read (Err (reads.Fault fault)) = read ≡ Err fault.at
