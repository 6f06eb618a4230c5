use Rattle.std.proofs.Common.{◌∙◌, List, ap, subst}
use Rattle.gate_entries.specs.declared.entry.Entry.{Entry}
use Rattle.gate_machine.specs.Move.{Held}
use Rattle.gate_engine.specs.Engine.{held_as}
use Rattle.gate_engine.specs.Kept.{IsSentOf, Keeps}
use Rattle.gate_engine.proofs.Kept.{stands_same}
use Rattle.gate_engine.proofs.Steps.{keeps_same}
use Rattle.gate_engine.proofs.engine.Engine.add.Goals as goal

pub returns-in_default-clause-keeps : goal.returns-in_default-clause-keeps
returns-in_default-clause-keeps g c =
    let same = ap (λ (held : Held). held.history) c.self.view_is in
    keeps_same c.args.self.now.history (g.P.Plant.told c.args.plant.now) (g.P.Plant.stops c.args.plant.now) _
    (same, ap (λ (held : Held). held.loose) c.self.view_is ∙ c.requires.settled)
    (stands_same _ _ same (ap (λ (held : Held). held.loose) c.self.view_is) (g.P.Plant.stops c.args.plant.now) c.requires.stands) (c.runs_join.ensures.still c.args.plant.now)

pub returns-then-is_err-clause-keeps : goal.returns-then-is_err-clause-keeps
returns-then-is_err-clause-keeps g c =
    let same = c.reserve.ensures.items ∙ ap (λ (held : Held). held.history) c.self.view_is in
    keeps_same c.args.self.now.history (g.P.Plant.told c.args.plant.now) (g.P.Plant.stops c.args.plant.now) _
    (same, ap (λ (held : Held). held.loose) c.self.view_is ∙ c.requires.settled)
    (stands_same _ _ same (ap (λ (held : Held). held.loose) c.self.view_is) (g.P.Plant.stops c.args.plant.now) c.requires.stands) (c.runs_join.ensures.still c.args.plant.now)

pub returns-then-commit-clause-keeps : goal.returns-then-commit-clause-keeps
returns-then-commit-clause-keeps g c =
    let stops = g.P.Plant.stops c.args.plant.now in
    subst (λ (h : List Entry). Keeps (IsSentOf h stops) h (g.P.Plant.told c.args.plant.now) (g.P.Plant.told c.commit.new.plant) stops (g.P.Plant.stops c.commit.new.plant)
    (held_as c.commit.new.history.items c.commit.new.loose)) (c.reserve.ensures.items ∙ ap (λ (held : Held). held.history) c.self.view_is) c.commit.ensures.keeps

pub returns-clause-keeps : goal.returns-clause-keeps
returns-clause-keeps g c =
    let stops = g.P.Plant.stops c.args.plant.now in
    subst (λ (h : List Entry). Keeps (IsSentOf h stops) h (g.P.Plant.told c.args.plant.now) (g.P.Plant.told c.commit.new.plant) stops (g.P.Plant.stops c.commit.new.plant)
    (held_as c.commit.new.history.items c.commit.new.loose)) (c.reserve.ensures.items ∙ ap (λ (held : Held). held.history) c.self.view_is) c.commit.ensures.keeps
