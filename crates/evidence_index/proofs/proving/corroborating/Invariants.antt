use Rattle.std.proofs.Common.{◌≡◌, map, take}
use Rattle.evidence_index.specs.Evidence.{corroborates}
use Rattle.evidence_index.proofs.proving.corroborating.Given as goal

abbrev pub invariant-loop-place : goal.invariant-loop-place
invariant-loop-place l = l.good.items ≡ map (corroborates l.c l.seen_at l.entries) (take l.place l.panel)
