use Rattle.gate_machine.proofs.LeastRule.{san_tells}
use Rattle.gate_machine.proofs.request.broken_by_request.Goals as goal

pub returns-in-Ok : goal.returns-in-Ok
returns-in-Ok c =
    let request = c.args.request.now in
    let laws = c.one_reading.ensures in
    san_tells request c.args.targets.now (laws.fields request) (laws.faultless request) (laws.fault request)
    (record { spki = c.in-Ok.fields.spki.now; kind = c.in-Ok.fields.kind; san = c.in-Ok.fields.san }) c.in-Ok.ensures.ok c.broken_by_san.result c.broken_by_san.ensures
