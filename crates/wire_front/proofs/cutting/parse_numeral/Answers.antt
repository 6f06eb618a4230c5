use Rattle.wire_front.proofs.CutLemmas.{no_text, parsed, unparsed}
use Rattle.wire_front.proofs.cutting.parse_numeral.Goals as goal

pub returns-in_default : goal.returns-in_default
returns-in_default c = no_text c.args.text.now c.in_default.ensures.cases.0

pub returns-in-Ok-parse : goal.returns-in-Ok-parse
returns-in-Ok-parse c =
    parsed c.args.text.now c.in-Ok-parse.number c.parse.result c.requires c.in-Ok-parse.is (rw c.in-Ok.ensures.cases.0 at c.parse.ensures.value.0)

pub returns-in-Err : goal.returns-in-Err
returns-in-Err c = unparsed c.args.text.now c.parse.result c.in-Err.field-0 c.in-Err.is (rw c.in-Ok.ensures.cases.0 at c.parse.ensures.value.0)
