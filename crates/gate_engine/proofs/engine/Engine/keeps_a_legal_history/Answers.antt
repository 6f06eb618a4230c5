use Rattle.std.proofs.Common.{List, ap, subst}
use Rattle.gate_entries.specs.declared.entry.Entry.{Entry}
use Rattle.gate_machine.specs.History.{Legal}
use Rattle.gate_machine.specs.Sends.{HasOneBodyEach}
use Rattle.gate_machine.specs.Serials.{HasOneOrderEach}
use Rattle.gate_machine.specs.Move.{Held, IsSound}
use Rattle.gate_engine.proofs.engine.Engine.keeps_a_legal_history.Goals as goal

pub returns-clause-legal : goal.returns-clause-legal
returns-clause-legal c = subst Legal (ap (λ (held : Held). held.history) c.self.view_is) c.self.invariant.legal

pub returns-clause-sound : goal.returns-clause-sound
returns-clause-sound c =
    subst IsSound c.self.view_is (record { legal = c.self.invariant.legal; waits = c.self.invariant.waits })

pub returns-clause-one_body : goal.returns-clause-one_body
returns-clause-one_body c =
    subst (λ (h : List Entry). HasOneBodyEach h) (ap (λ (held : Held). held.history) c.self.view_is)
    (c.an_order_has_one_body.ensures c.self.inside.history.items c.self.invariant.legal.each)

pub returns-clause-one_order : goal.returns-clause-one_order
returns-clause-one_order c =
    subst (λ (h : List Entry). HasOneOrderEach h) (ap (λ (held : Held). held.history) c.self.view_is)
    (c.a_serial_number_has_one_order.ensures c.self.inside.history.items c.self.invariant.legal.each)
