use Rattle.std.proofs.Common.{◌≡◌, map, take}
use Rattle.evidence_index.specs.Caa.{permits}
use Rattle.evidence_index.proofs.permitting.permitting.Given as goal

abbrev pub invariant-loop-place : goal.invariant-loop-place
invariant-loop-place l =
    l.good.items ≡ map (permits l.q.issuers.now l.q.order l.q.target.now l.q.name.now l.q.moment.0 l.entries) (take l.place l.panel)
