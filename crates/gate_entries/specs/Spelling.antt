-- The one spelling of each entry.
use Rattle.std.specs.Prelude.{◌≡◌, ℕ, ◌<◌, ◌≤◌, ◌^◌, List, [], ◌∷◌, ◌++◌, length}
use Rattle.std.specs.Int.{w16, w32, w64, to_be_bytes}
use Rattle.gate_entries.specs.declared.entry.Entry.{Entry}
use Rattle.gate_entries.specs.declared.entry.What.{What}
use Rattle.gate_entries.specs.declared.entry.What.TheVariants.{Settings, Order, Challenge, Observation, CaaAnswer, Send, Signed, Blocked}
use Rattle.gate_entries.specs.declared.kind.Kind.{Kind}
use Rattle.gate_entries.specs.declared.kind.Kind.TheVariants as kinds
use Rattle.gate_entries.specs.Field.{counted}
use Rattle.gate_entries.specs.Kind.{kind_number, kind_of}
use Rattle.gate_entries.specs.Order.{order_bytes, IsOrder}
use Rattle.gate_entries.specs.Challenge.{challenge_bytes, IsChallenge}
use Rattle.gate_entries.specs.Observation.{observation_bytes, IsObservation}
use Rattle.gate_entries.specs.CaaAnswer.{caa_bytes, IsCaa}
use Rattle.gate_entries.specs.Numbered.{numbered_bytes, IsNumbered}
use Rattle.gate_entries.specs.Blocked.{blocked_bytes, IsBlocked}

-- the fields of each kind
abbrev pub what_bytes : What → List ℕ
what_bytes (Settings bytes) = counted w32 bytes
what_bytes (Order key common days targets request) = order_bytes key common days targets request
what_bytes (Challenge key order method target value thumb) = challenge_bytes key order method target value thumb
what_bytes (Observation key challenge moment seen) = observation_bytes key challenge moment seen
what_bytes (CaaAnswer key order target moment answers) = caa_bytes key order target moment answers
what_bytes (Send order body) = numbered_bytes order body
what_bytes (Signed order signature) = numbered_bytes order signature
what_bytes (Blocked key spki) = blocked_bytes key spki

-- kind, number, moment, caller, and then the fields
unfoldable pub entry_bytes : Entry → List ℕ
entry_bytes entry =
    (kind_number (kind_of entry.what) ∷ []) ++ to_be_bytes w64 entry.number ++ to_be_bytes w64 entry.moment.0 ++ counted w16 entry.caller ++ what_bytes entry.what

-- ---- what has a spelling

abbrev pub IsWhat : What → Type 0
IsWhat (Settings bytes) = length bytes < 2 ^ 32
IsWhat (Order key common days targets request) = IsOrder key days targets request
IsWhat (Challenge key order method target value thumb) = IsChallenge key order method target value thumb
IsWhat (Observation key challenge moment seen) = IsObservation key challenge moment seen
IsWhat (CaaAnswer key order target moment answers) = IsCaa key order target moment answers
IsWhat (Send order body) = IsNumbered order body
IsWhat (Signed order signature) = IsNumbered order signature
IsWhat (Blocked key spki) = IsBlocked key spki

-- settings have no caller
abbrev pub HasCaller : List ℕ → Kind → Type 0
HasCaller caller kinds.Settings = caller ≡ []
HasCaller caller kind = Unit {0}

-- an entry's greatest length
abbrev pub most_bytes : ℕ
most_bytes = 1114112

pub record IsEntry (entry : Entry) : Type 0 where
  pub number : entry.number < 2 ^ 64
  pub moment : entry.moment.0 < 2 ^ 64
  pub caller : length entry.caller < 2 ^ 16
  pub from : HasCaller entry.caller (kind_of entry.what)
  pub what : IsWhat entry.what
  pub size : length (entry_bytes entry) ≤ most_bytes
