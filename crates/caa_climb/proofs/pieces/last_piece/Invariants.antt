use Rattle.std.proofs.Common.{◌≡◌, length}
use Rattle.caa_climb.specs.Reading.{last_piece}
use Rattle.caa_climb.proofs.pieces.last_piece.Given as goal

abbrev pub invariant-loop-b : goal.invariant-loop-b
invariant-loop-b l = last_piece l.text l.text ≡ last_piece l.piece l.rest

abbrev pub decreases-loop-b : goal.decreases-loop-b
decreases-loop-b l = length l.rest
