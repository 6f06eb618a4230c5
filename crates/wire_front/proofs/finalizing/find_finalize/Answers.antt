use Rattle.std.proofs.lemmas.Result.{err_from_is_err_and}
use Rattle.wire_front.proofs.FinalizeLemmas.{no_start, no_end_behind, finalize_read}
use Rattle.wire_front.proofs.finalizing.find_finalize.Goals as goal

pub returns-in_err-rest-clause-absent : goal.returns-in_err-rest-clause-absent
returns-in_err-rest-clause-absent c =
    let returned = err_from_is_err_and c.from_residual.result c.from_residual.ensures.1 in
    rw (returned.1, returned.2) (no_start c.args.bytes.now c.in_err-rest.field-0.0 c.in_err-rest.ensures.absent)

pub returns-in_err-rest-2-clause-absent : goal.returns-in_err-rest-2-clause-absent
returns-in_err-rest-2-clause-absent c =
    let returned = err_from_is_err_and c.from_residual-in_err-rest-2.result c.from_residual-in_err-rest-2.ensures.1 in
    rw (returned.1, returned.2) (no_end_behind c.args.bytes.now c.in_ok-rest.rest.now c.in_ok-order.rest.now c.in_ok-order.order c.in_ok-rest.ensures.found
    c.in_ok-order.ensures.found c.in_err-rest-2.field-0.0 c.in_err-rest-2.ensures.absent)

pub returns-clause-found : goal.returns-clause-found
returns-clause-found c =
    finalize_read c.args.bytes.now c.in_ok-rest.rest.now c.in_ok-order.rest.now c.in_ok-rest-2.rest.now c.in_ok-order.order c.in_ok-rest.ensures.found
    c.in_ok-order.ensures.found c.in_ok-rest-2.ensures.found
