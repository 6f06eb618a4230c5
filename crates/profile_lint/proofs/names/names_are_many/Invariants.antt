use Rattle.std.proofs.Common.{◌≡◌, ◌+◌, ◌≤◌, length}
use Rattle.der_text.specs.View.{nodes}
use Rattle.profile_lint.specs.Parts.{count_parts}
use Rattle.profile_lint.specs.Names.{is_general_name}
use Rattle.profile_lint.proofs.names.names_are_many.Given as goal

-- the names so far and those of the rest
abbrev pub invariant-loop-rest : goal.invariant-loop-rest
invariant-loop-rest l =
    (count_parts is_general_name (nodes l.parts) ≡ l.count + count_parts is_general_name (nodes l.rest))
    × (l.count + length l.rest ≤ length l.parts)

abbrev pub decreases-loop-rest : goal.decreases-loop-rest
decreases-loop-rest l = length l.rest
