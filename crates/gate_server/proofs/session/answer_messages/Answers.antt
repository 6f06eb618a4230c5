use Rattle.std.proofs.Common.{sym, ap, subst, ◌∙◌, arith}
use Rattle.wire_front.specs.Stream.{StreamState}
use Rattle.gate_server.specs.Session.{talk_of, begun, Talked}
use Rattle.gate_server.proofs.Talks.{talked_none, talked_more, ended_unknown, ended_full}
use Rattle.gate_server.proofs.session.answer_messages.Goals as goal

pub returns-in-Ok-None-clause-ended : goal.returns-in-Ok-None-clause-ended
returns-in-Ok-None-clause-ended g c =
    ended_unknown c.args.callers.now c.one_passing.ensures.none c.one_passing.ensures.more c.what_steps_keep.ensures.more c.args.engine.now (g.P.Plant.told c.args.plant.now)
    (g.C.Clock.told c.args.clock.now) (g.E.Entropy.told c.args.entropy.now) (g.S.Source.told c.args.source.now) (g.K.Sink.told c.args.sink.now)
    (sym c.in-Ok-None.ensures ∙ c.in-Ok-None.field-0-is)

pub returns-in-Err-clause-ended : goal.returns-in-Err-clause-ended
returns-in-Err-clause-ended g c =
    ended_full c.args.callers.now c.one_passing.ensures.none c.one_passing.ensures.more c.what_steps_keep.ensures.more c.args.engine.now (g.P.Plant.told c.args.plant.now)
    (g.C.Clock.told c.args.clock.now) (g.E.Entropy.told c.args.entropy.now) (g.S.Source.told c.args.source.now) (g.K.Sink.told c.args.sink.now)

pub loop-status-init : goal.loop-status-init
loop-status-init g c =
    let talk : (stream : StreamState) → _ = λ (stream : StreamState). talk_of c.args.engine.now (g.P.Plant.told c.args.plant.now) (g.C.Clock.told c.args.clock.now)
    (g.E.Entropy.told c.args.entropy.now) stream (g.S.Source.told c.args.source.now) (g.K.Sink.told c.args.sink.now) in
    record {
      talked = subst (λ (stream : StreamState). Talked c.args.callers.now (talk begun) (talk stream)) (sym c.new-stream.ensures)
          (talked_none c.args.callers.now c.one_passing.ensures.none c.one_passing.ensures.more c.what_steps_keep.ensures.more (talk begun));
      fits = omega (arith, ap (λ (s : StreamState). s.taken) c.new-stream.ensures);
      stands = c.requires.stands;
      kept = λ given. given;
      since = c.what_a_run_keeps.ensures.still c.args.engine.now c.args.plant.now c.args.plant.now c.keeps_a_legal_history.ensures.sound c.requires.stands
          (c.runs_join.ensures.still c.args.plant.now);
    }

pub loop-status-preserved : goal.loop-status-preserved
loop-status-preserved g c =
    let before = c.loop-status.invariant in
    let now = c.turn-turned.ensures in
    record {
      talked = talked_more c.args.callers.now c.one_passing.ensures.none c.one_passing.ensures.more c.what_steps_keep.ensures.more _ _ _ before.talked c.in_default.ensures.turns now.read_later now.put_later;
      fits = now.fits;
      stands = now.stands;
      kept = λ given. now.kept (before.kept given);
      since = c.what_a_run_keeps.ensures.on c.args.engine.now c.loop-status.engine c.args.plant.now c.loop-status.plant c.turn-turned.new.plant
          (c.what_steps_keep.ensures.extends _ before.talked.items _ before.talked.steps) before.kept before.since now.since;
    }

pub returns-in-Err-turned-clause-since : goal.returns-in-Err-turned-clause-since
returns-in-Err-turned-clause-since g c =
    let before = c.loop-status.invariant in
    c.what_a_run_keeps.ensures.on c.args.engine.now c.loop-status.engine c.args.plant.now c.loop-status.plant c.turn-turned.new.plant
    (c.what_steps_keep.ensures.extends _ before.talked.items _ before.talked.steps) before.kept before.since c.turn-turned.ensures.since
