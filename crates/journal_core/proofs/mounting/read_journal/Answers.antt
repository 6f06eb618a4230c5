use Rattle.std.proofs.Common.{sym, ◌∙◌, subst, arith, Result, Ok, Err, IfErr, IsErrAnd}
use Rattle.journal_core.specs.Mounting.{EndsShut, Refuses}
use Rattle.journal_core.proofs.Gates.{whole_journal, refuses_whole}
use Rattle.journal_core.proofs.mounting.read_journal.Goals as goal

pub read_rest-requires-clause-begun : goal.read_rest-requires-clause-begun
read_rest-requires-clause-begun g c = λ bytes told. c.in_ok-end.ensures.begun bytes (sym c.begun_length.ensures.bytes ∙ told)

pub returns-clause-ok : goal.returns-clause-ok
returns-clause-ok g c = λ bytes told.
    whole_journal bytes c.in_ok-rest.rest.items c.in_ok-groups.groups.payloads (c.in_ok-end.ensures.begun bytes told).begins
    (c.in_ok-rest.ensures.rest bytes (c.begun_length.ensures.bytes ∙ told))
    (omega (arith, c.in_ok-end.ensures.count bytes told, c.in_ok-end.ensures.fits))
    (subst (EndsShut c.in_ok-groups.groups.payloads) c.deref.ensures.value c.in_ok-groups.ensures.ends)

pub returns-clause-moments : goal.returns-clause-moments
returns-clause-moments g c =
    c.runs_join.ensures.stays c.args.plant.now c.begun_length.new.plant c.read_rest.new.plant c.begun_length.ensures.moments c.read_rest.ensures.moments

on_error : {T E : Type 0} (r : Result T E) (P Q : E → Type 0) → ((e : E) → P e → Q e) → IsErrAnd r P → IfErr r Q
on_error (Ok x) P Q goes is = tt
on_error (Err e) P Q goes is = goes e is

pub returns-in_err-groups-clause-fault : goal.returns-in_err-groups-clause-fault
returns-in_err-groups-clause-fault g c =
    on_error c.from_residual-in_err-groups.result _ _
    (λ fault is bytes told.
    let refused = refuses_whole c.in_err-groups.field-0.0 bytes c.in_ok-rest.rest.items (c.in_ok-end.ensures.begun bytes told)
    (c.in_ok-rest.ensures.rest bytes (c.begun_length.ensures.bytes ∙ told))
    (omega (arith, c.in_ok-end.ensures.count bytes told, c.in_ok-end.ensures.fits))
    (rw (sym c.deref.ensures.value) c.in_err-groups.ensures.fault) in
    subst (λ f. Refuses f bytes) (sym is) refused)
    c.from_residual-in_err-groups.ensures.1
