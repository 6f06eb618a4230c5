use Rattle.names_core.specs.Target.{name_text}
use Rattle.names_core.proofs.NameLemmas.{read_size}
use Rattle.names_core.proofs.TargetText.{IsName-read}
use Rattle.names_core.proofs.laws.names_are_read_again.Goals as goal

pub returns-clause-again : goal.returns-clause-again
returns-clause-again c = IsName-read

pub returns-clause-few : goal.returns-clause-few
returns-clause-few c = λ name is. read_size (name_text name) name is
