use Rattle.std.proofs.Common.{◌≡◌, ◌+◌, ◌≤◌, length}
use Rattle.names_core.specs.Suffix.{rule_count}
use Rattle.names_core.proofs.listing.rule_count.Given as goal

abbrev pub invariant-loop-line : goal.invariant-loop-line
invariant-loop-line l = record {
  bounded : l.count + length l.rest ≤ length l.text;
  counted : l.count + rule_count l.rest ≡ rule_count l.text;
}

abbrev pub decreases-loop-line : goal.decreases-loop-line
decreases-loop-line l = length l.rest
