use Rattle.std.proofs.Common.{◌≡◌, false, take}
use Rattle.std.specs.List.{list_any}
use Rattle.names_core.specs.Label.{has_bad_punycode}
use Rattle.names_core.proofs.reading.any_has_bad_punycode.Given as goal

abbrev pub invariant-loop-label : goal.invariant-loop-label
invariant-loop-label l = list_any has_bad_punycode (take l.label-index l.labels) ≡ false
