use Rattle.std.proofs.Common.{◌≡◌, ◌++◌, length}
use Rattle.profile_lint.specs.Lint.{broken}
use Rattle.profile_lint.proofs.lint.push_broken.Given as goal

-- the numbers so far stand before those of the rest
abbrev pub invariant-loop-rest : goal.invariant-loop-rest
invariant-loop-rest l =
    l.fn.broken ++ broken l.rows ≡ l.broken ++ broken l.rest

abbrev pub decreases-loop-rest : goal.decreases-loop-rest
decreases-loop-rest l = length l.rest
