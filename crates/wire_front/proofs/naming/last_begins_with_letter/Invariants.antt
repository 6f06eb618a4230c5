use Rattle.std.proofs.Common.{◌≡◌, length}
use Rattle.wire_front.specs.Message.{last_begins_with_letter}
use Rattle.wire_front.proofs.naming.last_begins_with_letter.Given as goal

abbrev pub invariant-loop-rest : goal.invariant-loop-rest
invariant-loop-rest l = last_begins_with_letter l.rest ≡ last_begins_with_letter l.labels

abbrev pub decreases-loop-rest : goal.decreases-loop-rest
decreases-loop-rest l = length l.rest
