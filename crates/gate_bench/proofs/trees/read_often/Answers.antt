use Rattle.der_text.specs.View.{node}
use Rattle.gate_bench.proofs.RoundsLemmas.{did_again}
use Rattle.gate_bench.proofs.trees.read_often.Goals as goal

pub loop-preserved : goal.loop-preserved
loop-preserved c =
    did_again (node c.in_ok-tree.tree) c.loop.invariant c.in_ok-tree.ensures.ok c.part_count.ensures
    c.saturating_add-parts.ensures
