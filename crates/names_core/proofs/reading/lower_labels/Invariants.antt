use Rattle.std.proofs.Common.{◌≡◌, ◌++◌, length, map}
use Rattle.std.specs.List.{slice_split}
use Rattle.names_core.specs.Name.{in_lower_case, is_full_stop}
use Rattle.names_core.proofs.reading.lower_labels.Given as goal

abbrev pub invariant-loop-label : goal.invariant-loop-label
invariant-loop-label l =
    l.labels ++ map in_lower_case (slice_split is_full_stop l.rest) ≡ map in_lower_case (slice_split is_full_stop l.text)

abbrev pub decreases-loop-label : goal.decreases-loop-label
decreases-loop-label l = length l.rest
