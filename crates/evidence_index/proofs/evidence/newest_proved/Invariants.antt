use Rattle.std.proofs.Common.{◌≡◌, length}
use Rattle.evidence_index.specs.Evidence.{newest, newest_after, proved}
use Rattle.evidence_index.proofs.evidence.newest_proved.Given as goal

abbrev pub invariant-loop-rest : goal.invariant-loop-rest
invariant-loop-rest l = newest_after l.newest (proved l.rest) ≡ newest (proved l.evidence)

abbrev pub decreases-loop-rest : goal.decreases-loop-rest
decreases-loop-rest l = length l.rest
