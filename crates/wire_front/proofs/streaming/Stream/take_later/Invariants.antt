use Rattle.std.proofs.Common.{◌-◌, ◌≤◌, []}
use Rattle.wire_front.specs.Message.{HasNoMessage}
use Rattle.wire_front.specs.Stream.{Passes, most_taken}
use Rattle.wire_front.proofs.streaming.Stream.take_later.Given as goal

abbrev pub invariant-loop-self : goal.invariant-loop-self
invariant-loop-self g l = record {
  passes : Passes l.fn.self (g.S.Source.told l.fn.source) l.self (g.S.Source.told l.source) [];
  later : (g.S.Source.told l.fn.source).faults ≤ (g.S.Source.told l.source).faults;
  fits : l.self.taken ≤ most_taken;
  none : HasNoMessage l.self.held;
}

abbrev pub decreases-loop-self : goal.decreases-loop-self
decreases-loop-self g l = most_taken - l.self.taken
