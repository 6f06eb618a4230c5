use Rattle.std.proofs.Common.{◌≡◌, length}
use Rattle.der_text.specs.View.{nodes}
use Rattle.profile_lint.specs.Parts.{all_parts}
use Rattle.profile_lint.specs.Rules.{is_identifier}
use Rattle.profile_lint.proofs.usage.are_identifiers.Given as goal

-- the rest decides
abbrev pub invariant-loop-rest : goal.invariant-loop-rest
invariant-loop-rest l =
    all_parts is_identifier (nodes l.parts) ≡ all_parts is_identifier (nodes l.rest)

abbrev pub decreases-loop-rest : goal.decreases-loop-rest
decreases-loop-rest l = length l.rest
