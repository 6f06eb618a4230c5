use Rattle.names_core.proofs.NameLemmas.{IsNameOf-Gives, IsFaultOf-Gives}
use Rattle.names_core.proofs.TargetText.{IsName-Gives}
use Rattle.names_core.proofs.reading.read_name.Goals as goal

pub returns-clause-name : goal.returns-clause-name
returns-clause-name c = IsNameOf-Gives _ _ c.name_of.ensures

pub returns-clause-fault : goal.returns-clause-fault
returns-clause-fault c = IsFaultOf-Gives _ _ c.name_of.ensures

pub returns-clause-named : goal.returns-clause-named
returns-clause-named c = IsName-Gives c.args.text.now c.name_of.result c.name_of.ensures
