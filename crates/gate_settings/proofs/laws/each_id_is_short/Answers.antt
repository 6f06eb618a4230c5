use Rattle.gate_settings.proofs.ShortRows.{each_short, id_short, token_short}
use Rattle.gate_settings.proofs.laws.each_id_is_short.Goals as goal

pub returns-clause-each : goal.returns-clause-each
returns-clause-each c = each_short

pub returns-clause-id : goal.returns-clause-id
returns-clause-id c = id_short

pub returns-clause-token : goal.returns-clause-token
returns-clause-token c = token_short
