use Rattle.wire_front.proofs.CutLemmas.{too_large}
use Rattle.wire_front.proofs.message.read_days.Goals as goal

pub returns-in_default : goal.returns-in_default
returns-in_default c = λ value is. too_large c.args.text.now c.in-Some.days 398 c.in-Some.ensures.0.1 c.if-days-le-DAYS_LIMIT.false c.in-Some.ensures.1 value is.1
