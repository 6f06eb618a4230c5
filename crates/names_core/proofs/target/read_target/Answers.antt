use Rattle.names_core.proofs.TargetText.{IsWritten-Gives}
use Rattle.names_core.proofs.target.read_target.Goals as goal

pub returns-clause-written : goal.returns-clause-written
returns-clause-written c = IsWritten-Gives c.args.text.now c.target_of.result c.target_of.ensures
