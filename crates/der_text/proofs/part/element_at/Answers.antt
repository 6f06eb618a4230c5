use Rattle.der_text.proofs.Paths.{counts_on, counts_to_first, counts_past_last}
use Rattle.der_text.proofs.part.element_at.Goals as goal

pub returns-in_err-first : goal.returns-in_err-first
returns-in_err-first c = rw c.from_residual.ensures (counts_past_last c.args.bytes.now c.args.i c.loop-first.rest.now c.loop-first.left c.loop-first.invariant c.in_err-first.ensures.split)

pub returns-then-left-eq0 : goal.returns-then-left-eq0
returns-then-left-eq0 c =
    counts_to_first c.args.bytes.now c.args.i c.loop-first.rest.now c.in_ok-first.first.now c.in_ok-first.after.now c.loop-first.left c.loop-first.invariant c.in_ok-first.ensures.split c.in_ok-first.ensures.shorter c.if-left-eq0.true

pub loop-first-preserved : goal.loop-first-preserved
loop-first-preserved c =
    counts_on c.args.bytes.now c.args.i c.loop-first.rest.now c.in_ok-first.first.now c.in_ok-first.after.now c.loop-first.left c.loop-first.invariant c.in_ok-first.ensures.split c.in_ok-first.ensures.shorter c.if-left-eq0.false
