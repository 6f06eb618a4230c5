use Rattle.std.proofs.Common.{rules}
use Rattle.plant.proofs.Taking.{taken_more}
use Rattle.plant.proofs.loopback.fill.Goals as goal

pub loop-filled-preserved : goal.loop-filled-preserved
loop-filled-preserved g c = record {
  within = search rules;
  same_length = search rules;
  taken = taken_more _ _ _ _ _ _ _ _ (search rules) (search rules) (search rules) c.loop-filled.invariant.taken (search rules);
  later = search rules;
}
