use Rattle.std.proofs.Common.{rules}
use Rattle.plant.proofs.Moments.{received_stops, unsent_stops}
use Rattle.plant.proofs.memory_plant.MemoryPlantPlant.sign.Goals as goal
use Rattle.plant.proofs.memory_plant.MemoryPlantPlant.sign.Goals.{in-Err-kept, in_default}

pub returns-in-Ok-clause-moments : goal.returns-in-Ok-clause-moments
returns-in-Ok-clause-moments c = received_stops c.args.self.now _ c.args.body.now
    (search rules) (search rules) (search rules) (search rules) (search rules)

pub returns-in-Err-clause-moments : goal.returns-in-Err-clause-moments
returns-in-Err-clause-moments c = unsent_stops c.args.self.now _ c.args.body.now
    (search rules) (search rules) (search rules) (search rules) (search rules)

pub returns-after-kept-2-clause-moments : goal.returns-after-kept-2-clause-moments
returns-after-kept-2-clause-moments c = elim c.match-kept-2.branch [
  | in-Err-kept w ↦ unsent_stops c.args.self.now _ c.args.body.now (search rules) (search rules) (search rules) (search rules) (search rules)
  | in_default w ↦ received_stops c.args.self.now _ c.args.body.now (search rules) (search rules) (search rules) (search rules) (search rules)
]

pub returns-in-Some-Disk : goal.returns-in-Some-Disk
returns-in-Some-Disk c = record {
  size = tt;
  signature = tt;
  answered = tt;
  ok = tt;
  err = search rules;
  moments = unsent_stops c.args.self.now _ c.args.body.now (search rules) (search rules) (search rules) (search rules) (search rules);
  listed = search rules;
}
