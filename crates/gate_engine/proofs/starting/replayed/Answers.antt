use Rattle.std.proofs.Common.{arith}
use Rattle.gate_engine.proofs.starting.replayed.Goals as goal

pub returns-clause-refused : goal.returns-clause-refused
returns-clause-refused c = λ bytes journal. (
  record {
    begins = c.one_reading.ensures.begins bytes c.args.payloads.now journal;
    gate = omega (arith, c.one_group_more.ensures.size bytes c.args.payloads.now journal);
  },
  journal.fits,
)
