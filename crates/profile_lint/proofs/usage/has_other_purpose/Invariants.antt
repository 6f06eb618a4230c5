use Rattle.std.proofs.Common.{◌≡◌, length}
use Rattle.der_text.specs.View.{nodes}
use Rattle.profile_lint.specs.Parts.{any_part}
use Rattle.profile_lint.specs.Rules.{is_other_purpose}
use Rattle.profile_lint.proofs.usage.has_other_purpose.Given as goal

-- the rest decides
abbrev pub invariant-loop-rest : goal.invariant-loop-rest
invariant-loop-rest l =
    any_part is_other_purpose (nodes l.parts) ≡ any_part is_other_purpose (nodes l.rest)

abbrev pub decreases-loop-rest : goal.decreases-loop-rest
decreases-loop-rest l = length l.rest
