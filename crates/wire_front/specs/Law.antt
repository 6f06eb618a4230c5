-- What holds of all messages.
use Rattle.std.specs.Prelude.{◌≡◌, ℕ, List, ◌++◌}
use Rattle.gate_entries.specs.declared.command.Command.{Command}
use Rattle.wire_front.specs.Message.{IsMessageOf}

-- at most one message stands at the front of some bytes, and it asks one command
abbrev pub AtMostOneMessage : Type 0
AtMostOneMessage =
    (left right : Command) (a b r s : List ℕ) → IsMessageOf a left → IsMessageOf b right → a ++ r ≡ b ++ s
    → (left ≡ right) × (a ≡ b) × (r ≡ s)
