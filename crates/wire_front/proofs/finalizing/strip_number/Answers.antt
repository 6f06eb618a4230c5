use Rattle.wire_front.proofs.FinalizeLemmas.{number_read, no_number}
use Rattle.wire_front.proofs.finalizing.strip_number.Goals as goal

pub returns-in-Some-read_order_number-clause-found : goal.returns-in-Some-read_order_number-clause-found
returns-in-Some-read_order_number-clause-found c =
    number_read c.args.bytes.now c.in-Some.digits.now c.in-Some.rest.now c.in-Some-read_order_number.order c.in-Some.ensures c.in-Some-read_order_number.ensures.some.0
    c.in-Some-read_order_number.ensures.some.1

pub returns-in-None-clause-absent : goal.returns-in-None-clause-absent
returns-in-None-clause-absent c = no_number c.args.bytes.now c.in-Some.digits.now c.in-Some.rest.now c.in-Some.ensures c.in-None.ensures.none
