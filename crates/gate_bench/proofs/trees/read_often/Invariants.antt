use Rattle.der_text.specs.Tree.{IsDer}
use Rattle.gate_bench.specs.Rounds.{Did, part_count}
use Rattle.gate_bench.proofs.trees.read_often.Given as goal

-- so many rounds already
abbrev pub invariant-loop : goal.invariant-loop
invariant-loop l = Did (IsDer l.bytes) part_count l.counter l.parts
