use Rattle.names_core.proofs.Parts.{join_with_byte-more}
use Rattle.names_core.proofs.cutting.joined.Goals as goal

pub loop-at-preserved : goal.loop-at-preserved
loop-at-preserved c =
    join_with_byte-more c.args.byte c.loop-at.at c.args.parts.now c.as_slice.result.now c.loop-at.text.items c.append_part.new.out.items c.loop-at-test.true (rw c.as_slice.ensures c.index-parts-at.is) c.loop-at.invariant c.in_ok-append_part.ensures
