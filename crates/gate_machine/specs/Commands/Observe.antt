-- Observations of challenges: their row in a legal history. Whether one breaks a rule of its method is no part of it: it is kept all
-- the same, and judged when the order is.
use Rattle.std.specs.Prelude.{◌≡◌, ℕ, Bool, true, false, ◌&&◌, nat_eq, List, Option, find, is_some}
use Rattle.gate_base.specs.declared.moment.Moment.{Moment}
use Rattle.gate_entries.specs.declared.entry.Entry.{Entry}
use Rattle.gate_entries.specs.declared.entry.What.{What}
use Rattle.gate_entries.specs.declared.entry.What.TheVariants as whats
use Rattle.gate_machine.specs.Rows.{ComesUnderKey, IsTimely}
use Rattle.gate_machine.specs.Rules.{KeyBreaks}

abbrev pub is_challenge : What → Bool
is_challenge (whats.Challenge key order method target value thumb) = true
is_challenge what = false

-- the challenge with this number
abbrev pub is_challenge_at : ℕ → Entry → Bool
is_challenge_at number entry = nat_eq entry.number number && is_challenge entry.what

abbrev pub challenge_at : ℕ → List Entry → Option Entry
challenge_at number history = find (is_challenge_at number) history

-- F01: the retry key. The challenge stands before.
pub record ObservationComes (before : List Entry) (caller : List ℕ) (moment : Moment) (key : List ℕ) (challenge seen_at : ℕ) : Type 0 where
  pub under : ComesUnderKey before caller key (KeyBreaks key)
  pub there : is_some (challenge_at challenge before) ≡ true
  pub timely : IsTimely seen_at moment
