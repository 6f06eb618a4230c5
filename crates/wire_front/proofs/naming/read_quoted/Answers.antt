use Rattle.wire_front.proofs.NameLemmas.{quoted_missed, quoted_other, quoted_found}
use Rattle.wire_front.proofs.naming.read_quoted.Goals as goal

pub returns-in_default : goal.returns-in_default
returns-in_default c = quoted_missed c.args.bytes.now c.in_default.ensures

pub returns-in-Some-2 : goal.returns-in-Some-2
returns-in-Some-2 c =
    let read = rw c.in-Some-2.is at c.in_ok-target.ensures in
    (read.0, quoted_found c.args.bytes.now c.in-Some.name.now c.in-Some.behind.now c.in-Some-2.target c.in-Some.ensures read.1)

pub returns-in-None : goal.returns-in-None
returns-in-None c = quoted_other c.args.bytes.now c.in-Some.name.now c.in-Some.behind.now c.in-Some.ensures (rw c.in-None.is at c.in_ok-target.ensures)
