use Rattle.wire_front.proofs.MessageLemmas.{finalize_found, told, told_so_far, never_an_order}
use Rattle.wire_front.proofs.message.find_message.Goals as goal

pub returns-in-Ok : goal.returns-in-Ok
returns-in-Ok c = finalize_found c.args.bytes.now c.in-Ok.order c.in-Ok.behind.now c.in-Ok.ensures.found

pub returns-in-Never : goal.returns-in-Never
returns-in-Never c = never_an_order c.args.bytes.now (rw c.in-Err-SoFar.field-0-is at c.in-Err-SoFar.ensures.absent) c.in-Never.ensures

pub returns-in_default : goal.returns-in_default
returns-in_default c =
    told_so_far c.args.bytes.now c.find_order.result (rw c.in-Err-SoFar.field-0-is at c.in-Err-SoFar.ensures.absent) c.in_default.not-Never c.find_order.ensures

pub returns-in-Err-ForGood : goal.returns-in-Err-ForGood
returns-in-Err-ForGood c =
    told c.args.bytes.now c.find_order-in-Err-ForGood.result (rw c.in-Err-ForGood.field-0-is at c.in-Err-ForGood.ensures.absent) c.find_order-in-Err-ForGood.ensures
