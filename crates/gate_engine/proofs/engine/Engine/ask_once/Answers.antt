use Rattle.std.proofs.Common.{List, length, ap, refl, inl, inr, arith}
use Rattle.std.proofs.lemmas.List.{length-append}
use Rattle.gate_entries.specs.declared.entry.Entry.{Entry}
use Rattle.gate_engine.proofs.Recovery.{legal_still, legal_settled}
use Rattle.gate_engine.proofs.engine.Engine.ask_once.Goals as goal

pub returns-in-Ok-clause-good : goal.returns-in-Ok-clause-good
returns-in-Ok-clause-good g c = λ at is.
    let goes = c.ask_settled-reply.ensures.goes in
    absurd (c.what_a_move_keeps.ensures.native _ _ _ goes.given _ _ goes.goes at is)

pub returns-in-Ok-clause-stops : goal.returns-in-Ok-clause-stops
returns-in-Ok-clause-stops g c =
    let goes = c.ask_settled-reply.ensures.goes in
    let settles = c.in-Ok.ensures.settles in
    let sound = c.keeps_a_legal_history.ensures.sound in
    legal_settled c.one_entry_more.ensures.legal c.fronts_are_legal.ensures c.what_is_sent_is_recorded.ensures.more
    c.args.self.now c.ask_settled-reply.new.self c.settle.new.self
    (g.P.Plant.stops c.args.plant.now) (g.P.Plant.stops c.settle.new.plant) (g.P.Plant.stops c.ask_settled-reply.new.plant)
    sound
    (c.what_a_move_keeps.ensures.sound c.args.self.now c.args.caller.now c.args.command.now goes.given c.ask_settled-reply.result c.ask_settled-reply.new.self
    (inr (record { history = c.settle.new.self.history; settles = settles; goes = goes.goes })) sound)
    c.requires.stands c.settle.ensures.stays settles c.settle.ensures.kept goes.leaves.keeps.since
    (c.runs_join.ensures.joins c.args.plant.now c.settle.new.plant c.ask_settled-reply.new.plant c.settle.ensures.stays.joins goes.leaves.keeps.since.joins)

pub returns-in-Err-clause-stops : goal.returns-in-Err-clause-stops
returns-in-Err-clause-stops g c =
    legal_still c.one_entry_more.ensures.legal c.fronts_are_legal.ensures c.what_is_sent_is_recorded.ensures.more
    c.args.self.now c.settle.new.self (g.P.Plant.stops c.args.plant.now) (g.P.Plant.stops c.settle.new.plant)
    c.in-Err.ensures.same c.keeps_a_legal_history.ensures.sound c.requires.stands c.settle.ensures.stays

pub returns-in-Ok-clause-wrote : goal.returns-in-Ok-clause-wrote
returns-in-Ok-clause-wrote g c =
    let goes = c.ask_settled-reply.ensures.goes in
    let mid = c.settle.new.self in
    let on = c.what_a_move_keeps.ensures.extends mid c.args.caller.now c.args.command.now goes.given c.ask_settled-reply.result c.ask_settled-reply.new.self
    (inr (record { history = mid.history; settles = inl refl; goes = goes.goes })) in
    inr (
      goes.given,
      record { history = mid.history; settles = c.in-Ok.ensures.settles; goes = goes.goes },
      omega (arith, ap (λ (l : List Entry). length l) on.1, length-append mid.history on.0, c.count-before.ensures, c.count.ensures, c.saturating_sub-wrote.ensures),
    )
