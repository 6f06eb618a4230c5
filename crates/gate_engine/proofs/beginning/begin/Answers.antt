use Rattle.std.proofs.Common.{[], sym, subst, ◌∙◌}
use Rattle.std.proofs.lemmas.Result.{on_ok_weaker}
use Rattle.journal_core.specs.Journal.{IsPayload}
use Rattle.gate_engine.proofs.Begun.{told_list, kept_begun}
use Rattle.gate_engine.proofs.beginning.begin.Goals as goal

pub returns-clause-kept : goal.returns-clause-kept
returns-clause-kept g c =
    on_ok_weaker c.begin.result
    (λ only. λ none. kept_begun c.args.moment c.args.settings.now c.deref.result.now (g.P.Plant.stops c.args.plant.now) (g.P.Plant.stops c.begin.new.plant) (c.deref.ensures.value ∙ c.in-Ok.ensures.spelled)
    (c.one_group_more.ensures.begun c.deref.result.now (subst IsPayload (sym c.deref.ensures.value) c.in-Ok.ensures.payload)) only c.begin.ensures.moments
    (λ image sent left. told_list _ sent [] (g.met.P.Plant.beside c.args.plant.now image sent left) none))
    c.begin.ensures.durable

pub returns-clause-legal : goal.returns-clause-legal
returns-clause-legal g c =
    on_ok_weaker c.begin.result
    (λ only. λ in_range. c.settings_begin_a_history.ensures c.args.moment.0 c.args.settings.now c.in-Ok.ensures.entry in_range c.requires.readable)
    c.begin.ensures.durable
