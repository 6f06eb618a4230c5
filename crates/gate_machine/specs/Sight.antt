-- What a caller's command asks of the history: look-ups, each of them over what the caller sees. Nothing else of the history
-- decides what a command is answered, but for drawn bytes that stand there already and for the room in the journal.
use Rattle.std.specs.Prelude.{ℕ, ◌+◌, ◌-◌, max, Bool, true, ◌&&◌, nat_eq, List, length, slice_get, Option, find}
use Rattle.std.specs.Option.{option_map_or}
use Rattle.gate_base.specs.declared.profile.Role.{Role}
use Rattle.gate_base.specs.declared.profile.Role.TheVariants as roles
use Rattle.gate_entries.specs.declared.caller.Caller.{Caller}
use Rattle.gate_entries.specs.declared.entry.Entry.{Entry}
use Rattle.gate_entries.specs.declared.entry.What.{What}
use Rattle.gate_entries.specs.Command.{entry_with}
use Rattle.gate_machine.specs.declared.place.Place.{Place}
use Rattle.gate_machine.specs.Keys.{is_same, kept_for}
use Rattle.gate_machine.specs.Sends.{is_order, is_send_for, is_signed_for, block_of}

-- ---- what a caller sees

-- an account sees the entries that it asked for, the other roles see all
abbrev pub sees_as : Role → List ℕ → Entry → Bool
sees_as roles.Account id entry = is_same entry.caller id
sees_as roles.Perspective id entry = true
sees_as roles.Operator id entry = true

abbrev pub sees : Caller → Entry → Bool
sees caller entry = sees_as caller.role caller.id entry

-- the order with this number
abbrev pub is_order_for : Caller → ℕ → Entry → Bool
is_order_for caller number entry = sees caller entry && (nat_eq entry.number number && is_order entry.what)

abbrev pub order_for : Caller → ℕ → List Entry → Option Entry
order_for caller number history = find (is_order_for caller number) history

-- the first body that was sent for the order with this number
abbrev pub is_send_seen : Caller → ℕ → Entry → Bool
is_send_seen caller number entry = sees caller entry && is_send_for number entry.what

abbrev pub send_seen : Caller → ℕ → List Entry → Option Entry
send_seen caller number history = find (is_send_seen caller number) history

-- the signature for the order with this number
abbrev pub is_signed_seen : Caller → ℕ → Entry → Bool
is_signed_seen caller number entry = sees caller entry && is_signed_for number entry.what

abbrev pub signed_seen : Caller → ℕ → List Entry → Option Entry
signed_seen caller number history = find (is_signed_seen caller number) history

-- ---- all look-ups

-- functions, since a key or a number may be known only from what was found before
pub record Sight : Type 0 where
  -- the entry under the caller's retry key
  pub kept : List ℕ → Option Entry
  -- by an order's number: the order, the body that was sent for it, its signature
  pub order : ℕ → Option Entry
  pub sent : ℕ → Option Entry
  pub signed : ℕ → Option Entry
  -- the first entry that blocks a public key; it is the operator's, and all see it
  pub block : List ℕ → Option Entry

abbrev pub sight_of : Caller → List Entry → Sight
sight_of caller history = record {
  kept = λ key. kept_for caller.id key history;
  order = λ number. order_for caller number history;
  sent = λ number. send_seen caller number history;
  signed = λ number. signed_seen caller number history;
  block = λ spki. block_of spki history;
}

-- ---- where the next entry stands

-- the moment of the last entry
abbrev pub moment_of : List Entry → ℕ
moment_of history = option_map_or (λ entry. entry.moment.0) (slice_get history (length history - 1)) 0

-- behind the last entry, at the reading or at the moment of the last entry where that is later
abbrev pub place_of : List Entry → ℕ → Place
place_of history reading = record { number = length history + 1; moment = record { 0 = max reading (moment_of history) } }

abbrev pub entry_at : Place → Caller → What → Entry
entry_at place caller what = entry_with place.number place.moment caller.id what
