use Rattle.std.proofs.Common.{◌≡◌, ◌++◌, length}
use Rattle.der_text.specs.View.{nodes}
use Rattle.profile_lint.specs.Names.{targets_of}
use Rattle.profile_lint.proofs.names.targets_of.Given as goal

-- the targets so far stand before those of the rest
abbrev pub invariant-loop-rest : goal.invariant-loop-rest
invariant-loop-rest l =
    targets_of (nodes l.parts) ≡ l.targets ++ targets_of (nodes l.rest)

abbrev pub decreases-loop-rest : goal.decreases-loop-rest
decreases-loop-rest l = length l.rest
