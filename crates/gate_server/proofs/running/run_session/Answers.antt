use Rattle.std.proofs.Common.{inl, inr, refl}
use Rattle.gate_server.proofs.running.run_session.Goals as goal

pub returns-in-Ok-clause-runs : goal.returns-in-Ok-clause-runs
returns-in-Ok-clause-runs g c =
    inr (record { settings = c.in-Ok.conf.bytes.items; accepts = c.in-Ok.ensures.accepts; holds = c.hold_session.ensures.holds })

pub returns-in-Err-clause-runs : goal.returns-in-Err-clause-runs
returns-in-Err-clause-runs g c =
    inl (c.in-Err.ensures.refuses, record { plant = refl; stays = c.runs_join.ensures.still c.args.plant.now; clock = refl; entropy = refl; source = refl; sink = refl })
