use Rattle.std.proofs.Common.{sym}
use Rattle.wire_front.proofs.CutLemmas.{until_place, until_past}
use Rattle.wire_front.proofs.cutting.until.Goals as goal

pub returns-then-bytes-at : goal.returns-then-bytes-at
returns-then-bytes-at c = sym (until_place c.args.byte c.args.bytes.now c.loop-at.at c.loop-at-test.true c.if-bytes-at.true c.loop-at.invariant.free)

pub returns : goal.returns
returns c = sym (until_past c.args.byte c.args.bytes.now c.loop-at.at c.loop-at-test.false c.loop-at.invariant.free)
