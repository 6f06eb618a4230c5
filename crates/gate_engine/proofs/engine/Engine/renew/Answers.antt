use Rattle.std.proofs.Common.{List, sym, ap, subst, ◌∙◌}
use Rattle.gate_entries.specs.declared.entry.Entry.{Entry}
use Rattle.gate_machine.specs.Commands.Settings.{AreInForce}
use Rattle.gate_machine.specs.Move.{Held}
use Rattle.gate_engine.proofs.Renewals.{refused_on}
use Rattle.gate_engine.proofs.engine.Engine.renew.Goals as goal

pub returns-clause-refused : goal.returns-clause-refused
returns-clause-refused g c =
    let history = c.deref.ensures.value ∙ ap (λ (held : Held). held.history) c.self.view_is in
    refused_on c.args.settings.now c.args.self.now.history (g.C.Clock.told c.args.clock.now) (g.C.Clock.told c.renew_other.new.clock) c.renew_other.new.self
    (λ same. cc (c.if-are_in_force.ensures.1 (subst (λ (h : List Entry). AreInForce c.args.settings.now h) (sym history) same)))
    c.renew_other.result c.renew_other.ensures.fails
