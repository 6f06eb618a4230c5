use Rattle.std.proofs.Common.{inl, inr, List, ℕ, refl, subst}
use Rattle.gate_server.specs.Run.{BeginsJournal}
use Rattle.gate_server.proofs.running.run_begin.Goals as goal

pub returns-in-Ok-clause-does : goal.returns-in-Ok-clause-does
returns-in-Ok-clause-does g c =
    inr (record {
      settings = c.in-Ok.conf.bytes.items;
      accepts = c.in-Ok.ensures.accepts;
      begins = subst (λ (settings : List ℕ). BeginsJournal settings (g.P.Plant.told c.args.plant.now) (g.P.Plant.told c.begin_journal.new.plant)
          (g.P.Plant.stops c.args.plant.now) (g.P.Plant.stops c.begin_journal.new.plant) (g.C.Clock.told c.args.clock.now)
          (g.C.Clock.told c.begin_journal.new.clock) c.begin_journal.result) c.deref.ensures.value c.begin_journal.ensures.begins;
    })

pub returns-in-Err-clause-does : goal.returns-in-Err-clause-does
returns-in-Err-clause-does g c = inl (c.in-Err.ensures.refuses, refl, c.runs_join.ensures.still c.args.plant.now, refl)
