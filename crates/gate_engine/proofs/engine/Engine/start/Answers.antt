use Rattle.gate_engine.proofs.Justified.{left_behind}
use Rattle.gate_engine.proofs.Renewals.{started_of, begins_on, outside_unrenewed, keeps_disk_on}
use Rattle.gate_engine.proofs.engine.Engine.start.Goals as goal

pub returns-in-Ok-renewed-clause-renewed : goal.returns-in-Ok-renewed-clause-renewed
returns-in-Ok-renewed-clause-renewed g c =
    started_of c.args.settings.now c.in-Ok.engine.history
    (g.P.Plant.told c.args.plant.now) (g.P.Plant.told c.open.new.plant) (g.P.Plant.told c.renew-renewed.new.plant)
    (g.P.Plant.stops c.args.plant.now) (g.P.Plant.stops c.open.new.plant) (g.P.Plant.stops c.renew-renewed.new.plant)
    (g.C.Clock.told c.args.clock.now) (g.C.Clock.told c.renew-renewed.new.clock)
    c.in-Ok.ensures.legal c.in-Ok.ensures.journal c.in-Ok.ensures.found c.in-Ok.ensures.bytes
    (λ stays. c.runs_join.ensures.stays c.args.plant.now c.open.new.plant c.renew-renewed.new.plant c.in-Ok.ensures.stays stays)
    c.renew-renewed.new.self c.in-Ok-renewed.ensures.starts

pub returns-in-Ok-renewed-clause-kept : goal.returns-in-Ok-renewed-clause-kept
returns-in-Ok-renewed-clause-kept g c = λ before sound kept. c.in-Ok-renewed.ensures.keeps.recorded (c.in-Ok.ensures.kept before sound kept)

pub returns-in-Ok-renewed-clause-begins : goal.returns-in-Ok-renewed-clause-begins
returns-in-Ok-renewed-clause-begins g c = λ bytes is before sound stands.
    begins_on before c.in-Ok.engine.history c.renew-renewed.new.self.history (c.in-Ok.ensures.found bytes is before sound stands) c.in-Ok-renewed.ensures.extends

pub returns-in-Ok-renewed-clause-headline : goal.returns-in-Ok-renewed-clause-headline
returns-in-Ok-renewed-clause-headline g c = λ before sound kept bytes is.
    c.what_a_run_keeps.ensures.started before c.in-Ok.engine c.renew-renewed.new.self c.args.plant.now c.open.new.plant c.renew-renewed.new.plant
    sound kept c.in-Ok.ensures.stays (c.in-Ok.ensures.found bytes is before sound kept.stands) (λ sent. c.in-Ok.ensures.kept before sound kept)
    c.keeps_a_legal_history.ensures.sound c.in-Ok-renewed.ensures.keeps.since

pub returns-in-Ok-renewed-clause-left : goal.returns-in-Ok-renewed-clause-left
returns-in-Ok-renewed-clause-left g c = λ before sound kept bytes is.
    left_behind before c.in-Ok.engine c.renew-renewed.new.self (g.P.Plant.stops c.renew-renewed.new.plant)
    (c.in-Ok.ensures.found bytes is before sound kept.stands) c.in-Ok-renewed.ensures.extends c.keeps_a_legal_history.ensures.sound
    c.in-Ok-renewed.ensures.keeps.stands (c.in-Ok-renewed.ensures.keeps.recorded (c.in-Ok.ensures.kept before sound kept))

pub returns-in-Err-renewed-clause-headline : goal.returns-in-Err-renewed-clause-headline
returns-in-Err-renewed-clause-headline g c = λ before sound kept bytes is.
    c.what_a_run_keeps.ensures.started before c.in-Ok.engine c.renew-renewed.new.self c.args.plant.now c.open.new.plant c.renew-renewed.new.plant
    sound kept c.in-Ok.ensures.stays (c.in-Ok.ensures.found bytes is before sound kept.stands) (λ sent. c.in-Ok.ensures.kept before sound kept)
    c.keeps_a_legal_history.ensures.sound c.in-Err-renewed.ensures.keeps.since

pub returns-in-Err-renewed-clause-left : goal.returns-in-Err-renewed-clause-left
returns-in-Err-renewed-clause-left g c = λ before sound kept bytes is.
    left_behind before c.in-Ok.engine c.renew-renewed.new.self (g.P.Plant.stops c.renew-renewed.new.plant)
    (c.in-Ok.ensures.found bytes is before sound kept.stands) c.in-Err-renewed.ensures.extends c.keeps_a_legal_history.ensures.sound
    c.in-Err-renewed.ensures.keeps.stands (c.in-Err-renewed.ensures.keeps.recorded (c.in-Ok.ensures.kept before sound kept))

pub returns-in-Err-renewed-clause-good : goal.returns-in-Err-renewed-clause-good
returns-in-Err-renewed-clause-good g c = λ bytes is before sound stands.
    outside_unrenewed c.args.settings.now c.in-Ok.engine.history (g.C.Clock.told c.args.clock.now) (g.C.Clock.told c.renew-renewed.new.clock)
    c.in-Err-renewed.fault c.renew-renewed.new.self c.in-Err-renewed.ensures.refused

pub returns-in-Err-renewed-clause-same : goal.returns-in-Err-renewed-clause-same
returns-in-Err-renewed-clause-same g c = λ other.
    keeps_disk_on c.args.settings.now c.in-Ok.engine.history
    (g.P.Plant.told c.args.plant.now) (g.P.Plant.told c.open.new.plant) (g.P.Plant.told c.renew-renewed.new.plant)
    (g.P.Plant.stops c.args.plant.now) (g.P.Plant.stops c.open.new.plant) (g.P.Plant.stops c.renew-renewed.new.plant)
    (g.C.Clock.told c.args.clock.now) (g.C.Clock.told c.renew-renewed.new.clock)
    c.in-Ok.ensures.bytes
    (λ stays. c.runs_join.ensures.stays c.args.plant.now c.open.new.plant c.renew-renewed.new.plant c.in-Ok.ensures.stays stays)
    (c.in-Err-renewed.ensures.same other)
