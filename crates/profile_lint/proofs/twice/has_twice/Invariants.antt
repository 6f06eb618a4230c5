use Rattle.std.proofs.Common.{◌≡◌, ◌||◌, length}
use Rattle.std.specs.List.{list_any}
use Rattle.profile_lint.specs.Names.{target_eq}
use Rattle.profile_lint.specs.Parts.{has_twice}
use Rattle.profile_lint.specs.Seen.{is_seen}
use Rattle.profile_lint.proofs.twice.has_twice.Given as goal

-- one of the rest was seen, or the rest has one twice
abbrev pub invariant-loop-first : goal.invariant-loop-first
invariant-loop-first l = has_twice target_eq l.targets ≡ (list_any (is_seen l.seen) l.rest || has_twice target_eq l.rest)

abbrev pub decreases-loop-first : goal.decreases-loop-first
decreases-loop-first l = length l.rest
