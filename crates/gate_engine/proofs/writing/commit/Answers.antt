use Rattle.std.proofs.Common.{◌∷◌, [], length, refl, ap, ◌∙◌, arith}
use Rattle.gate_machine.specs.History.{payloads_of}
use Rattle.gate_engine.proofs.Stands.{some_bytes}
use Rattle.gate_engine.proofs.Kept.{stands_of, sent_committed, stands_committed, stands_lost, between_committed, whole_settled, sent_more}
use Rattle.gate_engine.proofs.writing.commit.Goals as goal

pub append-requires-clause-payload : goal.append-requires-clause-payload
append-requires-clause-payload g c =
    let size = ap length c.requires.payload in
    record { some = omega (arith, some_bytes c.args.entry, size); fits = omega (arith, c.requires.follows.spelled.size, size) }

pub append-requires-clause-stands : goal.append-requires-clause-stands
append-requires-clause-stands g c = (
  payloads_of c.args.history.now.items,
  stands_of c.args.history.now.items c.args.loose.now c.requires.settled c.args.journal.now c.requires.sound.place c.requires.sound.linked
      (g.P.Plant.stops c.args.plant.now) c.requires.stands,
)

pub returns-in-Ok-push-clause-keeps : goal.returns-in-Ok-push-clause-keeps
returns-in-Ok-push-clause-keeps g c = record {
  stands = stands_committed c.args.history.now.items c.args.loose.now c.requires.settled c.args.entry c.args.payload.now
      c.requires.payload c.args.journal.now c.requires.sound.place c.requires.sound.linked (g.P.Plant.stops c.args.plant.now)
      (g.P.Plant.stops c.append.new.plant) c.requires.stands c.append.ensures.moments
      c.append.new.self _ c.in-Ok-push.ensures.items c.in-Ok.ensures.ok;
  recorded = λ given. sent_more c.what_is_sent_is_recorded.ensures.more c.args.history.now.items _ (c.args.entry ∷ []) (g.P.Plant.stops c.append.new.plant)
      c.in-Ok-push.ensures.items
      (sent_committed c.args.history.now.items c.args.loose.now c.requires.settled c.args.entry c.args.payload.now
      c.requires.payload c.args.journal.now c.requires.sound.place c.requires.sound.linked (g.P.Plant.stops c.args.plant.now)
      (g.P.Plant.stops c.append.new.plant) c.requires.stands c.append.ensures.moments given);
  since = between_committed c.args.history.now.items c.args.loose.now c.requires.settled c.args.entry c.args.payload.now
      c.requires.payload c.args.journal.now c.requires.sound.place c.requires.sound.linked (g.P.Plant.stops c.args.plant.now)
      (g.P.Plant.stops c.append.new.plant) c.requires.stands c.append.ensures.moments
      c.what_is_sent_is_recorded.ensures.more _ (whole_settled _ c.args.loose.now c.requires.settled ∙ c.in-Ok-push.ensures.items);
  later = c.append.ensures.cause.later;
}

pub returns-in-Err-clause-keeps : goal.returns-in-Err-clause-keeps
returns-in-Err-clause-keeps g c = record {
  stands = stands_lost c.args.history.now.items c.args.loose.now c.requires.settled c.args.entry c.args.payload.now
      c.requires.payload c.args.journal.now c.requires.sound.place c.requires.sound.linked (g.P.Plant.stops c.args.plant.now)
      (g.P.Plant.stops c.append.new.plant) c.requires.stands c.append.ensures.moments _ refl;
  recorded = sent_committed c.args.history.now.items c.args.loose.now c.requires.settled c.args.entry c.args.payload.now
      c.requires.payload c.args.journal.now c.requires.sound.place c.requires.sound.linked (g.P.Plant.stops c.args.plant.now)
      (g.P.Plant.stops c.append.new.plant) c.requires.stands c.append.ensures.moments;
  since = between_committed c.args.history.now.items c.args.loose.now c.requires.settled c.args.entry c.args.payload.now
      c.requires.payload c.args.journal.now c.requires.sound.place c.requires.sound.linked (g.P.Plant.stops c.args.plant.now)
      (g.P.Plant.stops c.append.new.plant) c.requires.stands c.append.ensures.moments
      c.what_is_sent_is_recorded.ensures.more _ refl;
  later = c.append.ensures.cause.later;
}

pub returns-in-Ok-push-clause-sent : goal.returns-in-Ok-push-clause-sent
returns-in-Ok-push-clause-sent g c =
    sent_committed c.args.history.now.items c.args.loose.now c.requires.settled c.args.entry c.args.payload.now
    c.requires.payload c.args.journal.now c.requires.sound.place c.requires.sound.linked (g.P.Plant.stops c.args.plant.now)
    (g.P.Plant.stops c.append.new.plant) c.requires.stands c.append.ensures.moments

pub returns-in-Err-clause-sent : goal.returns-in-Err-clause-sent
returns-in-Err-clause-sent g c =
    sent_committed c.args.history.now.items c.args.loose.now c.requires.settled c.args.entry c.args.payload.now
    c.requires.payload c.args.journal.now c.requires.sound.place c.requires.sound.linked (g.P.Plant.stops c.args.plant.now)
    (g.P.Plant.stops c.append.new.plant) c.requires.stands c.append.ensures.moments
