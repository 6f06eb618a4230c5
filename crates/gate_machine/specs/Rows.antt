-- What the rows of a legal history share.
use Rattle.std.specs.Prelude.{◌≡◌, ◌≢◌, ℕ, ◌+◌, ◌≤◌, List, [], None}
use Rattle.gate_base.specs.declared.moment.Moment.{Moment}
use Rattle.gate_entries.specs.declared.entry.Entry.{Entry}
use Rattle.gate_machine.specs.Keys.{kept_for}

-- behind other entries, under a key that is new to its caller, with fields that break none of the rules
pub record ComesUnderKey (before : List Entry) (caller key : List ℕ) (breaks : ℕ → Type 0) : Type 0 where
  pub some : before ≢ []
  pub new : kept_for caller key before ≡ None
  pub fields : (rule : ℕ) → ¬ (breaks rule)

-- what was seen is told within 300 seconds, and not before it was seen
pub record IsTimely (seen_at : ℕ) (moment : Moment) : Type 0 where
  pub early : seen_at ≤ moment.0
  pub late : moment.0 ≤ seen_at + 300
