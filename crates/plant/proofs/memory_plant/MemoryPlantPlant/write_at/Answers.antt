use Rattle.std.proofs.Common.{length, rules}
use Rattle.plant.proofs.Moments.{tore_stops}
use Rattle.plant.proofs.memory_plant.MemoryPlantPlant.write_at.Goals as goal

pub returns-then-is_some-clause-moments : goal.returns-then-is_some-clause-moments
returns-then-is_some-clause-moments c = tore_stops c.args.self.now _ c.args.at (length c.args.piece.now)
    (search rules) (search rules) (search rules) (search rules) (search rules)

pub returns-in-Err-clause-moments : goal.returns-in-Err-clause-moments
returns-in-Err-clause-moments c = tore_stops c.args.self.now _ c.args.at (length c.args.piece.now)
    (search rules) (search rules) (search rules) (search rules) (search rules)
