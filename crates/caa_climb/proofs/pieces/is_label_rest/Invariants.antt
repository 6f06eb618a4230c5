use Rattle.std.proofs.Common.{◌≡◌, length, true}
use Rattle.caa_climb.specs.Reading.{is_label_rest}
use Rattle.caa_climb.proofs.pieces.is_label_rest.Given as goal

abbrev pub invariant-loop-b : goal.invariant-loop-b
invariant-loop-b l = is_label_rest true l.text ≡ is_label_rest l.closed l.rest

abbrev pub decreases-loop-b : goal.decreases-loop-b
decreases-loop-b l = length l.rest
