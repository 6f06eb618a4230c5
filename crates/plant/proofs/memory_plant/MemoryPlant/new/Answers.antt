use Rattle.std.proofs.Common.{rules}
use Rattle.plant.proofs.Moments.{new_stops}
use Rattle.plant.proofs.memory_plant.MemoryPlant.new.Goals as goal

pub returns-clause-stable : goal.returns-clause-stable
returns-clause-stable c = new_stops _ c.args.disk (search rules) (search rules) (search rules) (search rules)
