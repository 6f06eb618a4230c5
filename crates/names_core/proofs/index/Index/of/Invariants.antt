use Rattle.std.proofs.Common.{◌≡◌, ℕ, ◌||◌, List, vec_len}
use Rattle.names_core.specs.declared.rule.RuleKind.{RuleKind}
use Rattle.names_core.specs.Index.{is_in, is_listed}
use Rattle.names_core.proofs.index.Index.of.Given as goal

abbrev pub invariant-loop-rule : goal.invariant-loop-rule
invariant-loop-rule l =
    (kind : RuleKind) (labels : List (List ℕ)) → (is_in kind labels l.index || is_listed kind labels l.left.items) ≡ is_listed kind labels l.fn.rules

abbrev pub decreases-loop-rule : goal.decreases-loop-rule
decreases-loop-rule l = vec_len l.left
