use Rattle.std.proofs.Common.{◌≡◌, ◌-◌, ◌≤◌}
use Rattle.http_frames.specs.Frames.{IsUnfinished}
use Rattle.http_frames.specs.Stream.{Awaits, most_taken}
use Rattle.http_frames.proofs.Streams.{GrowsBefore}
use Rattle.http_frames.proofs.wire.Wire.read_later.Given as goal

abbrev pub invariant-loop-self : goal.invariant-loop-self
invariant-loop-self g l = record {
  grows : GrowsBefore l.fn.self (g.S.Source.told l.fn.source) l.self (g.S.Source.told l.source);
  later : (g.S.Source.told l.fn.source).faults ≤ (g.S.Source.told l.source).faults;
  beside : g.S.Source.beside l.source ≡ g.S.Source.beside l.fn.source;
  fits : l.self.taken ≤ most_taken;
  none : IsUnfinished l.self.held;
  awaits : Awaits l.self.held l.needs;
}

abbrev pub decreases-loop-self : goal.decreases-loop-self
decreases-loop-self g l = most_taken - l.self.taken
