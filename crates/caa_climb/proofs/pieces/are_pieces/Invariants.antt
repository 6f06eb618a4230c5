use Rattle.std.proofs.Common.{◌≡◌, length}
use Rattle.std.specs.Prelude.{◌==◌}
use Rattle.std.specs.List.{list_all, slice_split}
use Rattle.caa_climb.specs.Reading.{is_piece}
use Rattle.caa_climb.proofs.pieces.are_pieces.Given as goal

abbrev pub invariant-pieces : goal.invariant-pieces
invariant-pieces l = list_all is_piece (slice_split (λ b. b == 59) l.text) ≡ list_all is_piece (slice_split (λ b. b == 59) l.rest)

abbrev pub decreases-pieces : goal.decreases-pieces
decreases-pieces l = length l.rest
