use Rattle.std.proofs.Common.{length, ◌-◌}
use Rattle.plant.proofs.Taking.{Filled}
use Rattle.plant.proofs.loopback.fill.Given as goal

abbrev pub invariant-loop-filled : goal.invariant-loop-filled
invariant-loop-filled g l = Filled (g.S.Source.told l.initial.source) (g.S.Source.told l.source) l.initial.out l.out l.filled

abbrev pub decreases-loop-filled : goal.decreases-loop-filled
decreases-loop-filled g l = length l.initial.out - l.filled
