use Rattle.wire_front.proofs.MessageLemmas.{order_found, refused_body, no_order, never_order, some_bytes}
use Rattle.wire_front.proofs.message.find_order.Goals as goal

pub returns-in-Ok-Some : goal.returns-in-Ok-Some
returns-in-Ok-Some c =
    let read = rw c.in-Ok-Some.field-0-is at c.in-Ok-Some.ensures in
    order_found c.args.bytes.now c.in-Ok.body.now c.in-Ok.behind.now c.in-Ok-Some.command c.in-Ok.ensures.fits c.in-Ok.ensures.found read.0 read.1

pub returns-in-Ok-None : goal.returns-in-Ok-None
returns-in-Ok-None c =
    let none = rw c.in-Ok-None.field-0-is at c.in-Ok-None.ensures in
    refused_body c.args.bytes.now c.in-Ok.body.now c.in-Ok.behind.now c.in-Ok.ensures.fits c.in-Ok.ensures.found none

pub returns-in-Err-SoFar : goal.returns-in-Err-SoFar
returns-in-Err-SoFar c = no_order c.args.bytes.now (rw c.in-Err-SoFar.field-0-is at c.in-Err-SoFar.ensures.absent)

pub returns-in-Err-ForGood : goal.returns-in-Err-ForGood
returns-in-Err-ForGood c =
    let none = rw c.in-Err-ForGood.field-0-is at c.in-Err-ForGood.ensures.absent in
    (some_bytes c.args.bytes.now none, never_order c.args.bytes.now none)
