use Rattle.std.proofs.Common.{ℕ, ◌<◌}
use Rattle.perspectives.specs.Panel.{ConflictAt}
use Rattle.perspectives.proofs.rules.first_conflict.Given as goal

abbrev pub invariant-loop-i : goal.invariant-loop-i
invariant-loop-i l = (k m : ℕ) → k < l.i → ¬ (ConflictAt l.kind l.list k m)
