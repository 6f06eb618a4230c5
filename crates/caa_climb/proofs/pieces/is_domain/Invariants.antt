use Rattle.std.proofs.Common.{◌≡◌, length}
use Rattle.std.specs.Prelude.{◌==◌}
use Rattle.std.specs.List.{list_all, slice_split}
use Rattle.caa_climb.specs.Reading.{is_label}
use Rattle.caa_climb.proofs.pieces.is_domain.Given as goal

abbrev pub invariant-pieces : goal.invariant-pieces
invariant-pieces l = list_all is_label (slice_split (λ b. b == 46) l.text) ≡ list_all is_label (slice_split (λ b. b == 46) l.rest)

abbrev pub decreases-pieces : goal.decreases-pieces
decreases-pieces l = length l.rest
