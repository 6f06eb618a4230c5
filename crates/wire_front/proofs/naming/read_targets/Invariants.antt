use Rattle.std.proofs.Common.{◌≡◌, length}
use Rattle.wire_front.proofs.NameLemmas.{Begun}
use Rattle.wire_front.proofs.naming.read_targets.Given as goal

abbrev pub invariant-loop : goal.invariant-loop
invariant-loop l = record { begun : Begun l.text l.targets l.rest; count : length l.targets ≡ l.counter }
