use Rattle.std.proofs.Common.{◌≡◌, length}
use Rattle.der_text.specs.View.{nodes}
use Rattle.profile_lint.specs.Parts.{all_parts}
use Rattle.profile_lint.specs.Names.{is_general_name}
use Rattle.profile_lint.proofs.names.are_general_names.Given as goal

-- the rest decides
abbrev pub invariant-loop-rest : goal.invariant-loop-rest
invariant-loop-rest l =
    all_parts is_general_name (nodes l.parts) ≡ all_parts is_general_name (nodes l.rest)

abbrev pub decreases-loop-rest : goal.decreases-loop-rest
decreases-loop-rest l = length l.rest
