use Rattle.std.proofs.Common.{rules}
use Rattle.plant.proofs.Moments.{durable_stops}
use Rattle.plant.proofs.memory_plant.MemoryPlantPlant.sync.Goals as goal

pub returns-clause-durable : goal.returns-clause-durable
returns-clause-durable c = durable_stops c.args.self.now _ (search rules)
