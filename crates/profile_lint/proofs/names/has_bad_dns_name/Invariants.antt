use Rattle.std.proofs.Common.{◌≡◌, length}
use Rattle.der_text.specs.View.{nodes}
use Rattle.profile_lint.specs.Parts.{any_part}
use Rattle.profile_lint.specs.Names.{is_bad_dns_name}
use Rattle.profile_lint.proofs.names.has_bad_dns_name.Given as goal

-- the rest decides
abbrev pub invariant-loop-rest : goal.invariant-loop-rest
invariant-loop-rest l =
    any_part is_bad_dns_name (nodes l.parts) ≡ any_part is_bad_dns_name (nodes l.rest)

abbrev pub decreases-loop-rest : goal.decreases-loop-rest
decreases-loop-rest l = length l.rest
