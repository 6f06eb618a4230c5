use Rattle.std.proofs.Common.{◌≤◌}
use Rattle.std.specs.List.{prefix_len}
use Rattle.caa_climb.specs.Climb.{is_empty_answer}
use Rattle.caa_climb.proofs.climbing.climb.Given as goal

abbrev pub invariant-loop-drop : goal.invariant-loop-drop
invariant-loop-drop l = l.drop ≤ prefix_len is_empty_answer l.seen.answers
