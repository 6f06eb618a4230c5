use Rattle.std.proofs.Common.{length, ap, arith}
use Rattle.format_tests.proofs.trees.comes_back.Goals as goal

pub write_tree-requires : goal.write_tree-requires
write_tree-requires g c = record { size = omega (arith, ap length c.in_ok-tree.ensures.ok.spelled) }
