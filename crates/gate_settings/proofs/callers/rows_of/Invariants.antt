use Rattle.std.proofs.Common.{◌≡◌, [], take, drop}
use Rattle.gate_settings.specs.Callers.{rows_from, rows_then}
use Rattle.gate_settings.proofs.callers.rows_of.Given as goal

-- the rows so far stand in front of those of the callers that are left
abbrev pub invariant-loop-k : goal.invariant-loop-k
invariant-loop-k l =
    rows_from l.perspectives [] l.callers ≡ rows_then l.rows (rows_from l.perspectives (take l.k l.callers) (drop l.k l.callers))
