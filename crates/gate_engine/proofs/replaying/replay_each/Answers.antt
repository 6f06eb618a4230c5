use Rattle.std.proofs.Common.{◌≢◌, ◌++◌, List, ℕ, drop, ap, subst, ◌∙◌}
use Rattle.gate_entries.specs.declared.entry.Entry.{Entry}
use Rattle.gate_entries.specs.Spelling.{entry_bytes}
use Rattle.gate_machine.specs.History.{payloads_of, Follows}
use Rattle.gate_engine.specs.declared.fault.ReplayFault.TheVariants.{Illegal}
use Rattle.gate_engine.proofs.Starts.{strays, first_of, same_fault, as_fault}
use Rattle.gate_engine.proofs.replaying.replay_each.Goals as goal

pub returns-in-Err-clause-illegal : goal.returns-in-Err-clause-illegal
returns-in-Err-clause-illegal c = λ at is.
    let same = as_fault c.in-Err.fault (Illegal at) (same_fault c.in-Err.fault (Illegal at) is) in
    let rest = drop 1 c.loop-rest.rest.now in
    let first = first_of c.loop-rest.rest.now c.payload-item.result _ c.payload-item.is c.in-len1-up.len_at_least in
    let stray = subst (λ (h : List Entry). (entry : Entry) → Follows h entry → c.payload-item.result ≢ entry_bytes entry) c.deref.ensures.value (c.in-Err.ensures.stray at same) in
    strays c.args.payloads.now c.loop-rest.history.items c.payload-item.result rest at
    (c.loop-rest.invariant.split ∙ ap (λ (l : List (List ℕ)). payloads_of c.loop-rest.history.items ++ l) first) c.loop-rest.invariant.each
    (c.in-Err.ensures.place at same ∙ c.loop-rest.invariant.place) stray
