use Rattle.gate_settings.proofs.Meaning.{one, exact}
use Rattle.gate_settings.proofs.laws.one_settings.Goals as goal

pub returns-clause-one : goal.returns-clause-one
returns-clause-one c = one

pub returns-clause-exact : goal.returns-clause-exact
returns-clause-exact c = exact

pub returns-clause-some : goal.returns-clause-some
returns-clause-some c = λ bytes readable. (readable.settings, readable.say, readable.sound)
