use Rattle.std.proofs.Common.{◌≡◌, length}
use Rattle.std.specs.List.{list_any}
use Rattle.profile_lint.specs.Rules.{is_bad_common}
use Rattle.profile_lint.proofs.subject.a_common_name_is_bad.Given as goal

-- the rest decides
abbrev pub invariant-loop-rest : goal.invariant-loop-rest
invariant-loop-rest l =
    list_any (is_bad_common l.targets) l.subject ≡ list_any (is_bad_common l.targets) l.rest

abbrev pub decreases-loop-rest : goal.decreases-loop-rest
decreases-loop-rest l = length l.rest
