use Rattle.std.proofs.Common.{◌≡◌, length}
use Rattle.der_text.specs.View.{nodes}
use Rattle.profile_lint.specs.Parts.{any_part}
use Rattle.profile_lint.specs.Rules.{is_server_auth}
use Rattle.profile_lint.proofs.usage.has_server_auth.Given as goal

-- the rest decides
abbrev pub invariant-loop-rest : goal.invariant-loop-rest
invariant-loop-rest l =
    any_part is_server_auth (nodes l.parts) ≡ any_part is_server_auth (nodes l.rest)

abbrev pub decreases-loop-rest : goal.decreases-loop-rest
decreases-loop-rest l = length l.rest
