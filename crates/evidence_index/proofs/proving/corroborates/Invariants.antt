use Rattle.std.proofs.Common.{◌≡◌, length}
use Rattle.std.specs.List.{list_any}
use Rattle.evidence_index.specs.Evidence.{is_near, good_times}
use Rattle.evidence_index.proofs.proving.corroborates.Given as goal

-- what the rest says is what all of it says
abbrev pub invariant-loop-rest : goal.invariant-loop-rest
invariant-loop-rest l = list_any (is_near l.seen_at) (good_times l.id l.c l.rest) ≡ list_any (is_near l.seen_at) (good_times l.id l.c l.entries)

abbrev pub decreases-loop-rest : goal.decreases-loop-rest
decreases-loop-rest l = length l.rest
