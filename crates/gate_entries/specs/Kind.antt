-- The kinds of entries, by their numbers.
use Rattle.std.specs.Prelude.{ℕ, List, [], ◌∷◌, Option}
use Rattle.gate_entries.specs.declared.entry.What.{What}
use Rattle.gate_entries.specs.declared.entry.What.TheVariants as whats
use Rattle.gate_entries.specs.declared.kind.Kind.{Kind}
use Rattle.gate_entries.specs.declared.kind.Kind.TheVariants.{Settings, Order, Challenge, Observation, CaaAnswer, Send, Signed, Blocked}
use Rattle.gate_entries.specs.Field.{Read, with_number, one_of_at}

abbrev pub kind_number : Kind → ℕ
kind_number Settings = 1
kind_number Order = 2
kind_number Challenge = 3
kind_number Observation = 4
kind_number CaaAnswer = 5
kind_number Send = 6
kind_number Signed = 7
kind_number Blocked = 8

abbrev pub kinds : List Kind
kinds = Settings ∷ Order ∷ Challenge ∷ Observation ∷ CaaAnswer ∷ Send ∷ Signed ∷ Blocked ∷ []

-- the kind with this number
abbrev pub kind_with : ℕ → Option Kind
kind_with number = with_number kind_number kinds number

abbrev pub kind_at : List ℕ → Read Kind
kind_at bytes = one_of_at kind_number kinds bytes

-- the kind of what an entry says
abbrev pub kind_of : What → Kind
kind_of (whats.Settings bytes) = Settings
kind_of (whats.Order key common days targets request) = Order
kind_of (whats.Challenge key order method target value thumb) = Challenge
kind_of (whats.Observation key challenge seen_at seen) = Observation
kind_of (whats.CaaAnswer key order target seen_at answers) = CaaAnswer
kind_of (whats.Send order body) = Send
kind_of (whats.Signed order signature) = Signed
kind_of (whats.Blocked key spki) = Blocked
