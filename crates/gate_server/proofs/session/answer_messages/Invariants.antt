use Rattle.std.proofs.Common.{◌+◌, ◌-◌, ◌≤◌, length}
use Rattle.gate_engine.specs.Kept.{Stands, IsSentOf}
use Rattle.wire_front.specs.Stream.{most_taken}
use Rattle.gate_engine.specs.Justified.{JustifiesSince}
use Rattle.gate_server.specs.Session.{talk_of, begun, Talked}
use Rattle.gate_server.proofs.session.answer_messages.Given as goal

abbrev pub invariant-loop-status : goal.invariant-loop-status
invariant-loop-status g l = record {
  talked : Talked l.callers (talk_of l.fn.engine (g.P.Plant.told l.fn.plant) (g.C.Clock.told l.fn.clock) (g.E.Entropy.told l.fn.entropy) begun (g.S.Source.told l.fn.source) (g.K.Sink.told l.fn.sink))
      (talk_of l.engine (g.P.Plant.told l.plant) (g.C.Clock.told l.clock) (g.E.Entropy.told l.entropy) l.stream (g.S.Source.told l.source) (g.K.Sink.told l.sink));
  fits : l.stream.taken ≤ most_taken;
  stands : Stands l.engine (g.P.Plant.stops l.plant);
  kept : IsSentOf l.fn.engine.history (g.P.Plant.stops l.fn.plant) → IsSentOf l.engine.history (g.P.Plant.stops l.plant);
  since : JustifiesSince (IsSentOf l.fn.engine.history (g.P.Plant.stops l.fn.plant)) l.fn.engine.history (g.P.Plant.stops l.fn.plant) (g.P.Plant.stops l.plant);
}

abbrev pub decreases-loop-status : goal.decreases-loop-status
decreases-loop-status g l = (most_taken - l.stream.taken) + length l.stream.held
