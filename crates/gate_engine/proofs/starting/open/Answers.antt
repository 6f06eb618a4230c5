use Rattle.std.proofs.Common.{ℕ, List, subst}
use Rattle.std.proofs.lemmas.Result.{IfOk-weaker}
use Rattle.journal_core.specs.Journal.{IsJournal}
use Rattle.gate_engine.proofs.Starts.{refuses, if_err_weaker}
use Rattle.gate_engine.proofs.Recovery.{settles, sent_found, stands_found, outside}
use Rattle.gate_engine.proofs.starting.open.Goals as goal

pub returns-in-Err-clause-refused : goal.returns-in-Err-clause-refused
returns-in-Err-clause-refused g c = λ bytes told.
    refuses c.in-Err.fault c.start_fault.result bytes c.start_fault.ensures.is (c.in-Err.ensures.fault bytes told)

pub returns-in-Err-clause-good : goal.returns-in-Err-clause-good
returns-in-Err-clause-good g c = λ bytes told before sound stands.
    let pair = g.met.P.Plant.reads c.args.plant.now bytes told in
    outside c.one_entry_more.ensures.legal c.one_history.ensures.good c.no_journal_is_refused.ensures bytes before sound (stands bytes pair.0 pair.1)
    c.start_fault.result (refuses c.in-Err.fault c.start_fault.result bytes c.start_fault.ensures.is (c.in-Err.ensures.fault bytes told))

pub returns-in-Ok-clause-kept : goal.returns-in-Ok-clause-kept
returns-in-Ok-clause-kept g c =
    let new = g.P.Plant.stops c.mount.new.plant in
    IfOk-weaker c.replayed.result _ _
    (λ engine found. λ before sound kept.
    sent_found c.one_entry_more.ensures.legal c.one_history.ensures.one c.what_is_sent_is_recorded.ensures.more before sound (g.P.Plant.stops c.args.plant.now)
    new kept c.in-Ok.ensures.moments engine found.settled found.legal
    (stands_found new c.in-Ok.journal c.in-Ok.payloads engine found.settled found.payloads_are c.in-Ok.ensures.stands))
    c.replayed.ensures.found

pub returns-in-Ok-clause-found : goal.returns-in-Ok-clause-found
returns-in-Ok-clause-found g c =
    IfOk-weaker c.replayed.result _ _
    (λ engine found. λ bytes told before sound stands.
    let pair = g.met.P.Plant.reads c.args.plant.now bytes told in
    settles c.one_entry_more.ensures.legal c.one_history.ensures.one before sound engine.history found.legal bytes
    (subst (λ (p : List (List ℕ)). IsJournal p bytes) found.payloads_are (c.in-Ok.ensures.ok bytes told)) (stands bytes pair.0 pair.1))
    c.replayed.ensures.found

pub returns-in-Ok-clause-good : goal.returns-in-Ok-clause-good
returns-in-Ok-clause-good g c =
    if_err_weaker c.replayed.result _ _
    (λ fault refused. λ bytes told before sound stands.
    let pair = g.met.P.Plant.reads c.args.plant.now bytes told in
    outside c.one_entry_more.ensures.legal c.one_history.ensures.good c.no_journal_is_refused.ensures bytes before sound (stands bytes pair.0 pair.1) fault
    (refused bytes (c.in-Ok.ensures.ok bytes told)))
    c.replayed.ensures.refused
