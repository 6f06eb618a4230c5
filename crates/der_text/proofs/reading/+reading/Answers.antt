use Rattle.std.proofs.Common.{refl, arith, sym}
use Rattle.std.proofs.lemmas.Result.{err_from_is_err_and}
use Rattle.der_text.specs.Front.{front}
use Rattle.der_text.specs.View.{nodes}
use Rattle.der_text.proofs.Readings.{fault_front, fault_below, begins_primitive, begins_constructed, begins_push, begins_none}
use Rattle.der_text.proofs.Views.{node_prim, node_cons}
use Rattle.der_text.proofs.reading.+reading.Goals as goal

pub read_element-returns-in-Err-clause-fault : goal.read_element-returns-in-Err-clause-fault
read_element-returns-in-Err-clause-fault t c = fault_front _ _ _ _ c.in-Err.ensures.fault refl

pub read_element-returns-then-not-has_constructed_bit-clause-ok :
    goal.read_element-returns-then-not-has_constructed_bit-clause-ok
read_element-returns-then-not-has_constructed_bit-clause-ok t c =
    rw node_prim (begins_primitive _ _ (front c.in-Ok.front) c.in-Ok.ensures.spelled (sym c.if-not-has_constructed_bit.ensures))

pub read_element-returns-in_err-parts-clause-fault :
    goal.read_element-returns-in_err-parts-clause-fault
read_element-returns-in_err-parts-clause-fault t c =
    let p = err_from_is_err_and c.from_residual.result c.from_residual.ensures.1 in
    rw (p.1, p.2) (fault_below _ _ _ _ (front c.in-Ok.front) c.in_err-parts.field-0.0 c.in-Ok.ensures.spelled c.in-Ok.ensures.found (sym c.if-not-has_constructed_bit.ensures) refl c.in_err-parts.ensures.fault)

pub read_element-returns-clause-ok : goal.read_element-returns-clause-ok
read_element-returns-clause-ok t c =
    rw node_cons (begins_constructed _ _ (front c.in-Ok.front) (nodes c.in_ok-parts.parts.items) c.in-Ok.ensures.spelled (sym c.if-not-has_constructed_bit.ensures) c.in_ok-parts.ensures.ok)

pub read_parts-loop-rest-init : goal.read_parts-loop-rest-init
read_parts-loop-rest-init t c = record { read = rw c.new-parts.ensures.items (begins_none _ _); shorter = omega arith }

pub read_parts-loop-rest-preserved : goal.read_parts-loop-rest-preserved
read_parts-loop-rest-preserved t c = record {
  read = rw (c.in_ok-push.ensures.items) (begins_push _ _ _ _ _ _ c.loop-rest.invariant.read c.in_ok-part.ensures.ok);
  shorter = omega (arith, c.in_ok-part.ensures.shorter);
}
