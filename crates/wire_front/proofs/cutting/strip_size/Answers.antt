use Rattle.wire_front.proofs.CutLemmas.{size_found, no_size}
use Rattle.wire_front.proofs.cutting.strip_size.Goals as goal

pub returns-in-Some-read_size-clause-found : goal.returns-in-Some-read_size-clause-found
returns-in-Some-read_size-clause-found c =
    size_found c.args.bytes.now c.in-Some.number.now c.in-Some.rest.now c.in-Some-read_size.size c.in-Some.ensures c.in-Some-read_size.ensures.1

pub returns-in-None-clause-absent : goal.returns-in-None-clause-absent
returns-in-None-clause-absent c = no_size c.args.bytes.now c.in-Some.number.now c.in-Some.rest.now c.in-Some.ensures c.in-None.ensures
