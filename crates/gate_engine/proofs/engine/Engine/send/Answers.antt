use Rattle.std.proofs.Common.{List, ◌∙◌, ap, sym, subst}
use Rattle.gate_entries.specs.declared.entry.Entry.{Entry}
use Rattle.gate_machine.specs.declared.answer.Answer.TheVariants.{Send}
use Rattle.gate_machine.specs.Answer.{IsReadyToSend}
use Rattle.gate_machine.specs.Move.{Held}
use Rattle.gate_engine.specs.Engine.{CarriesOut, held_as}
use Rattle.gate_engine.proofs.Kept.{stands_same}
use Rattle.gate_engine.proofs.Steps.{carries_memory}
use Rattle.gate_engine.proofs.engine.Engine.send.Goals as goal

pub returns-in_default : goal.returns-in_default
returns-in_default g c =
    let same = c.prepare.ensures.items ∙ ap (λ (held : Held). held.history) c.self.view_is in
    record {
      carries = carries_memory (Send c.args.entry) c.args.self.now.history (g.P.Plant.told c.args.plant.now) (g.P.Plant.stops c.args.plant.now) _
          (same, ap (λ (held : Held). held.loose) c.self.view_is ∙ c.requires.settled)
          (stands_same _ _ same (ap (λ (held : Held). held.loose) c.self.view_is) (g.P.Plant.stops c.args.plant.now) c.requires.stands) (c.runs_join.ensures.still c.args.plant.now);
    }

pub send_prepared-requires-clause-stands : goal.send_prepared-requires-clause-stands
send_prepared-requires-clause-stands g c =
    stands_same _ _ (c.prepare.ensures.items ∙ ap (λ (held : Held). held.history) c.self.view_is) (ap (λ (held : Held). held.loose) c.self.view_is) (g.P.Plant.stops c.args.plant.now) c.requires.stands

pub send_prepared-requires-clause-ready : goal.send_prepared-requires-clause-ready
send_prepared-requires-clause-ready g c =
    let items = c.prepare.ensures.items ∙ ap (λ (held : Held). held.history) c.self.view_is in
    subst (λ (history : List Entry). IsReadyToSend history c.args.entry) (sym items) c.requires.ready

pub returns : goal.returns
returns g c =
    let items = c.prepare.ensures.items ∙ ap (λ (held : Held). held.history) c.self.view_is in
    record {
      carries = subst (λ (history : List Entry). CarriesOut (Send c.args.entry) history (g.P.Plant.told c.args.plant.now) (g.P.Plant.told c.send_prepared.new.plant)
          (g.P.Plant.stops c.args.plant.now) (g.P.Plant.stops c.send_prepared.new.plant)
          c.send_prepared.result (held_as c.send_prepared.new.history.items c.send_prepared.new.loose)) items c.send_prepared.ensures.carries;
    }
