use Rattle.std.proofs.Common.{◌≡◌, ◌+◌, ◌≤◌, length}
use Rattle.names_core.specs.Suffix.{lines_of, rules_from, rules_then}
use Rattle.names_core.proofs.listing.rules_of.Given as goal

abbrev pub invariant-loop-line : goal.invariant-loop-line
invariant-loop-line l = record {
  counted : l.number + length l.rest ≤ length l.text + 1;
  read : rules_then l.rules (rules_from l.number (lines_of l.rest)) ≡ rules_from 1 (lines_of l.text);
}

abbrev pub decreases-loop-line : goal.decreases-loop-line
decreases-loop-line l = length l.rest
