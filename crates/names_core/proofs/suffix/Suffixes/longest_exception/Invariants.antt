use Rattle.std.proofs.Common.{◌≡◌, length}
use Rattle.names_core.specs.Suffix.{longest_exception}
use Rattle.names_core.proofs.suffix.Suffixes.longest_exception.Given as goal

abbrev pub invariant-loop-tail : goal.invariant-loop-tail
invariant-loop-tail l = longest_exception l.self l.tail ≡ longest_exception l.self l.labels

abbrev pub decreases-loop-tail : goal.decreases-loop-tail
decreases-loop-tail l = length l.tail
