use Rattle.plant.proofs.Pieces.{wrote_front}
use Rattle.plant.proofs.standard_stream.write_whole.Goals as goal

pub returns-in-Err-clause-err : goal.returns-in-Err-clause-err
returns-in-Err-clause-err g c = wrote_front _ _ _ _ _ c.loop-rest.invariant c.in-Err.ensures.err

pub returns-in-Err-flush-clause-err : goal.returns-in-Err-flush-clause-err
returns-in-Err-flush-clause-err g c = wrote_front _ _ _ _ _ c.loop-rest.invariant c.flush.ensures.bytes
