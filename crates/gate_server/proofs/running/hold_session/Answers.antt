use Rattle.std.proofs.Common.{ℕ, List, subst}
use Rattle.gate_machine.specs.Commands.Settings.{AreInForce}
use Rattle.gate_engine.specs.Start.{Started}
use Rattle.gate_server.specs.Run.{outside_of}
use Rattle.gate_server.proofs.Runs.{session_of, ended_extends, extends_on}
use Rattle.gate_server.proofs.running.hold_session.Goals as goal

pub returns-in-Ok-clause-holds : goal.returns-in-Ok-clause-holds
returns-in-Ok-clause-holds g c =
    let told = c.in-Ok.ensures in
    let ends = c.answer_messages.ensures in
    let mounted = g.P.Plant.told c.start.new.plant in
    let old = outside_of (g.P.Plant.told c.args.plant.now) (g.P.Plant.stops c.args.plant.now) (g.C.Clock.told c.args.clock.now) (g.E.Entropy.told c.args.entropy.now)
    (g.S.Source.told c.args.source.now) (g.K.Sink.told c.args.sink.now) in
    let new = outside_of (g.P.Plant.told c.answer_messages.new.plant) (g.P.Plant.stops c.answer_messages.new.plant) (g.C.Clock.told c.answer_messages.new.clock)
    (g.E.Entropy.told c.answer_messages.new.entropy) (g.S.Source.told c.answer_messages.new.source) (g.K.Sink.told c.answer_messages.new.sink) in
    let keep = c.what_steps_keep.ensures in
    let in_force = subst (λ (settings : List ℕ). AreInForce settings c.in-Ok.engine.history) c.deref.ensures.value told.in_force in
    let started = subst (λ (settings : List ℕ). Started settings old.plant mounted old.stops (g.P.Plant.stops c.start.new.plant) old.clock (g.C.Clock.told c.start.new.clock) c.in-Ok.engine)
    c.deref.ensures.value told.renewed in
    session_of keep.more keep.extends keep.recorded keep.counted keep.settled c.args.conf.now.bytes.items c.args.conf.now.settings old new mounted
    (g.P.Plant.stops c.start.new.plant) (g.C.Clock.told c.start.new.clock) c.answer_messages.result c.in-Ok.engine c.answer_messages.new.engine c.requires.says told.settled
    told.legal in_force started c.start.ensures.later c.start.ensures.signer ends.ended ends.legal ends.one_body ends.one_order ends.sound ends.stands
    (λ found sound kept. ends.kept (told.kept found sound kept))

pub returns-in-Ok-clause-headline : goal.returns-in-Ok-clause-headline
returns-in-Ok-clause-headline g c = λ before sound kept bytes is.
    let told = c.in-Ok.ensures in
    let ends = c.answer_messages.ensures in
    c.what_a_run_keeps.ensures.asked before c.in-Ok.engine c.args.plant.now c.start.new.plant c.answer_messages.new.plant (told.begins bytes is before sound kept.stands)
    (told.kept before sound kept) (c.start.ensures.headline before sound kept bytes is) ends.since

pub returns-in-Ok-clause-left : goal.returns-in-Ok-clause-left
returns-in-Ok-clause-left g c = λ before sound kept bytes is.
    let told = c.in-Ok.ensures in
    let ends = c.answer_messages.ensures in
    let new = outside_of (g.P.Plant.told c.answer_messages.new.plant) (g.P.Plant.stops c.answer_messages.new.plant) (g.C.Clock.told c.answer_messages.new.clock)
    (g.E.Entropy.told c.answer_messages.new.entropy) (g.S.Source.told c.answer_messages.new.source) (g.K.Sink.told c.answer_messages.new.sink) in
    let keep = c.what_steps_keep.ensures in
    record {
      held = c.answer_messages.new.engine;
      sound = ends.sound;
      begins = extends_on before.history c.in-Ok.engine.history c.answer_messages.new.engine.history (told.begins bytes is before sound kept.stands)
          (ended_extends keep.more keep.extends keep.recorded keep.counted keep.settled c.args.conf.now.settings.callers (g.P.Plant.told c.start.new.plant)
          (g.C.Clock.told c.start.new.clock) (g.E.Entropy.told c.args.entropy.now) (g.S.Source.told c.args.source.now) (g.K.Sink.told c.args.sink.now) new c.answer_messages.result
          c.in-Ok.engine c.answer_messages.new.engine ends.ended);
      kept = record { stands = ends.stands; recorded = ends.kept (told.kept before sound kept) };
    }
