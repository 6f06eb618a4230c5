-- Serial numbers over a whole history.
use Rattle.std.specs.Prelude.{◌≡◌, ℕ, true, List, Some, slice_get}
use Rattle.gate_entries.specs.declared.entry.Entry.{Entry}
use Rattle.gate_machine.specs.Sends.{is_send_for, body_in, serial_in}

-- an entry of the history that sent a body for an order
pub record IsSendAt (history : List Entry) (place order : ℕ) (entry : Entry) : Type 0 where
  pub stands : slice_get history place ≡ Some entry
  pub sends : is_send_for order entry.what ≡ true

-- two bodies with the same serial number were sent for the same order (RFC 5280, section 4.1.2.2)
abbrev pub HasOneOrderEach : List Entry → Type 0
HasOneOrderEach history = (place place' order order' : ℕ) (entry entry' : Entry) → IsSendAt history place order entry → IsSendAt history place' order' entry'
    → serial_in (body_in entry.what) ≡ serial_in (body_in entry'.what) → order ≡ order'
