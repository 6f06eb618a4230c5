use Rattle.gate_settings.proofs.Readable.{readable_short}
use Rattle.gate_settings.proofs.laws.readable_settings_are_short.Goals as goal

pub returns : goal.returns
returns c = readable_short
