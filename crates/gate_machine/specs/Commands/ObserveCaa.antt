-- Answers for CAA records: the rules on their fields, and their row in a legal history.
use Rattle.std.specs.Prelude.{◌≡◌, ℕ, ◌⊎◌, Bool, ◌&&◌, nat_eq, List, Option, Some, find}
use Rattle.gate_base.specs.declared.moment.Moment.{Moment}
use Rattle.gate_base.specs.declared.name.Target.{Target}
use Rattle.gate_base.specs.declared.name.Target.TheVariants.{Dns, Ip}
use Rattle.gate_entries.specs.declared.entry.Entry.{Entry}
use Rattle.gate_machine.specs.Commands.Order.{IsAmong}
use Rattle.gate_machine.specs.Rows.{ComesUnderKey, IsTimely}
use Rattle.gate_machine.specs.Rules.{KeyBreaks}
use Rattle.gate_machine.specs.Sends.{is_order, targets_of}

-- the order with this number, of any account
abbrev pub is_order_at : ℕ → Entry → Bool
is_order_at number entry = nat_eq entry.number number && is_order entry.what

abbrev pub order_at : ℕ → List Entry → Option Entry
order_at number history = find (is_order_at number) history

-- a name that the order is for; an address is none
abbrev pub IsNameOf : List Target → Target → Type 0
IsNameOf targets (Dns name) = IsAmong (Dns name) targets
IsNameOf targets (Ip address) = ⊥

-- F01: the retry key; F15: the target is no name of the order
abbrev pub CaaBreaks : List ℕ → Target → List Target → ℕ → Type 0
CaaBreaks key target targets rule = KeyBreaks key rule ⊎ ((rule ≡ 15) × (¬ (IsNameOf targets target)))

-- the order stands before
pub record CaaComes (before : List Entry) (caller : List ℕ) (moment : Moment) (key : List ℕ) (number : ℕ) (target : Target) (seen_at : ℕ) : Type 0 where
  pub order : Entry
  pub there : order_at number before ≡ Some order
  pub under : ComesUnderKey before caller key (CaaBreaks key target (targets_of order.what))
  pub timely : IsTimely seen_at moment
