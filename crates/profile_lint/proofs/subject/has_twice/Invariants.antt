use Rattle.std.proofs.Common.{◌≡◌, length}
use Rattle.profile_lint.specs.Parts.{has_twice}
use Rattle.profile_lint.specs.Rules.{same_attribute}
use Rattle.profile_lint.proofs.subject.has_twice.Given as goal

-- the rest decides
abbrev pub invariant-loop-rest : goal.invariant-loop-rest
invariant-loop-rest l =
    has_twice same_attribute l.attributes ≡ has_twice same_attribute l.rest

abbrev pub decreases-loop-rest : goal.decreases-loop-rest
decreases-loop-rest l = length l.rest
