use Rattle.wire_front.proofs.CutLemmas.{other_start, started}
use Rattle.wire_front.proofs.cutting.strip_start.Goals as goal

pub returns-in-Some-clause-found : goal.returns-in-Some-clause-found
returns-in-Some-clause-found c = started c.args.text.now c.args.bytes.now c.in-Some.rest.now c.in-Some.ensures.cases.0 c.in-Some.ensures.cases.1

pub returns-in-None-clause-absent : goal.returns-in-None-clause-absent
returns-in-None-clause-absent c = other_start c.args.text.now c.args.bytes.now c.if-bytes-text.false c.in-None.ensures.cases
