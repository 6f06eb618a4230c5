use Rattle.gate_bench.proofs.RoundsLemmas.{did_again}
use Rattle.gate_bench.proofs.lints.lint_often.Goals as goal

pub loop-preserved : goal.loop-preserved
loop-preserved c =
    did_again c.in_ok-rules.rules c.loop.invariant c.in_ok-rules.ensures.list c.len.ensures
    c.saturating_add-broken.ensures
