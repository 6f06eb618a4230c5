use Rattle.std.proofs.Common.{ℕ, ◌<◌}
use Rattle.gate_settings.specs.Rules.{IsNoDomainAt}
use Rattle.gate_settings.proofs.issuers.first_wrong.Given as goal

abbrev pub invariant-loop-k : goal.invariant-loop-k
invariant-loop-k l = (j : ℕ) → j < l.k → ¬ (IsNoDomainAt l.issuers j)
