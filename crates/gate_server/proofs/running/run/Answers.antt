use Rattle.std.proofs.Common.{map, string_bytes, refl}
use Rattle.gate_server.specs.declared.running.Word.{Word}
use Rattle.gate_server.specs.declared.status.Status.TheVariants as statuses
use Rattle.gate_server.specs.Run.{outside_of, Runs}
use Rattle.gate_server.proofs.Words.{as_session, as_other}
use Rattle.gate_server.proofs.running.run.Goals as goal

pub returns-in-Session-clause-runs : goal.returns-in-Session-clause-runs
returns-in-Session-clause-runs g c = λ word is.
    as_session (λ (word : Word). Runs word (g.F.Source.told c.args.conf.now) (g.F.Source.told c.run_session.new.conf)
    (outside_of (g.P.Plant.told c.args.plant.now) (g.P.Plant.stops c.args.plant.now) (g.C.Clock.told c.args.clock.now) (g.E.Entropy.told c.args.entropy.now)
    (g.S.Source.told c.args.source.now) (g.K.Sink.told c.args.sink.now))
    (outside_of (g.P.Plant.told c.run_session.new.plant) (g.P.Plant.stops c.run_session.new.plant) (g.C.Clock.told c.run_session.new.clock)
    (g.E.Entropy.told c.run_session.new.entropy) (g.S.Source.told c.run_session.new.source) (g.K.Sink.told c.run_session.new.sink)) c.run_session.result)
    (map string_bytes c.args.words.now) word c.in-Session.ensures is c.run_session.ensures.runs

pub returns-in-Other-clause-runs : goal.returns-in-Other-clause-runs
returns-in-Other-clause-runs g c = λ word is.
    let outside = outside_of (g.P.Plant.told c.args.plant.now) (g.P.Plant.stops c.args.plant.now) (g.C.Clock.told c.args.clock.now) (g.E.Entropy.told c.args.entropy.now)
    (g.S.Source.told c.args.source.now) (g.K.Sink.told c.args.sink.now) in
    as_other (λ (word : Word). Runs word (g.F.Source.told c.args.conf.now) (g.F.Source.told c.args.conf.now) outside outside statuses.Usage)
    (map string_bytes c.args.words.now) word c.in-Other.ensures is
    (refl, record { plant = refl; stays = c.runs_join.ensures.still c.args.plant.now; clock = refl; entropy = refl; source = refl; sink = refl })

pub returns-in-Begin-clause-headline : goal.returns-in-Begin-clause-headline
returns-in-Begin-clause-headline g c = λ before sound kept bytes is.
    c.what_a_run_keeps.ensures.kept before c.args.plant.now c.run_begin.new.plant sound kept
    (c.run_begin.ensures.stays bytes is (c.what_a_run_keeps.ensures.some before c.args.plant.now bytes kept is))

pub returns-in-Begin-clause-left : goal.returns-in-Begin-clause-left
returns-in-Begin-clause-left g c = λ before sound kept bytes is.
    c.what_a_run_keeps.ensures.left before c.args.plant.now c.run_begin.new.plant sound kept
    (c.run_begin.ensures.stays bytes is (c.what_a_run_keeps.ensures.some before c.args.plant.now bytes kept is))
