use Rattle.std.proofs.Common.{◌≡◌, length}
use Rattle.std.specs.List.{list_any}
use Rattle.profile_lint.specs.Names.{is_text_of}
use Rattle.profile_lint.proofs.subject.is_text_among.Given as goal

-- the rest decides
abbrev pub invariant-loop-rest : goal.invariant-loop-rest
invariant-loop-rest l =
    list_any (is_text_of l.content) l.targets ≡ list_any (is_text_of l.content) l.rest

abbrev pub decreases-loop-rest : goal.decreases-loop-rest
decreases-loop-rest l = length l.rest
