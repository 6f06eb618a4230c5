use Rattle.std.proofs.Common.{rules}
use Rattle.std.proofs.lemmas.Nat.{be_bytes_2}
use Rattle.plant.proofs.loopback.number_of.Goals as goal

pub returns : goal.returns
returns c = be_bytes_2 c.args.bytes _ (search rules) (search rules) c.from_be_bytes.ensures
