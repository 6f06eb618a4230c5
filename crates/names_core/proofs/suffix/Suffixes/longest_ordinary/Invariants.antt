use Rattle.std.proofs.Common.{◌≡◌, length}
use Rattle.names_core.specs.Suffix.{longest_ordinary}
use Rattle.names_core.proofs.suffix.Suffixes.longest_ordinary.Given as goal

abbrev pub invariant-loop-tail : goal.invariant-loop-tail
invariant-loop-tail l = longest_ordinary l.self l.tail ≡ longest_ordinary l.self l.labels

abbrev pub decreases-loop-tail : goal.decreases-loop-tail
decreases-loop-tail l = length l.tail
