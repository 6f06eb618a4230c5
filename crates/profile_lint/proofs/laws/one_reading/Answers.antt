use Rattle.profile_lint.proofs.Reading.{one_reading}
use Rattle.profile_lint.proofs.laws.one_reading.Goals as goal

pub returns : goal.returns
returns c bytes contents other says also = one_reading bytes contents other c.one_body.ensures says also
