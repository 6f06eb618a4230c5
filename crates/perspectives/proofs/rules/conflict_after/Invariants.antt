use Rattle.std.proofs.Common.{ℕ, ◌<◌}
use Rattle.perspectives.specs.Panel.{ConflictAt}
use Rattle.perspectives.proofs.rules.conflict_after.Given as goal

abbrev pub invariant-loop-j : goal.invariant-loop-j
invariant-loop-j l = (k : ℕ) → k < l.j → ¬ (ConflictAt l.kind l.list l.i k)
