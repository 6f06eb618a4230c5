use Rattle.std.proofs.Common.{length}
use Rattle.profile_lint.specs.Lint.{IsListOf}
use Rattle.gate_bench.specs.Rounds.{Did}
use Rattle.gate_bench.proofs.lints.lint_often.Given as goal

-- so many rounds already
abbrev pub invariant-loop : goal.invariant-loop
invariant-loop l = Did (IsListOf l.body l.profile l.suffixes l.moment) length l.counter l.broken
