use Rattle.std.proofs.Common.{◌≡◌}
use Rattle.gate_bench.specs.Rounds.{digested_often}
use Rattle.gate_bench.proofs.digests.digest_often.Given as goal

-- so many rounds already
abbrev pub invariant-loop : goal.invariant-loop
invariant-loop l = (l.message, l.digest) ≡ digested_often l.counter l.fn.message
