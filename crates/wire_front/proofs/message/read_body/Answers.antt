use Rattle.wire_front.proofs.MemberLemmas.{body_missed, body_read}
use Rattle.wire_front.proofs.message.read_body.Goals as goal

pub returns-in-Some : goal.returns-in-Some
returns-in-Some c =
    let m = c.in-Some.members in
    body_read c.args.body.now (m.days.now, m.key.now, m.names.now, m.request.now) c.in-Some.ensures c.read_members.result c.read_members.ensures

pub returns-in-None : goal.returns-in-None
returns-in-None c = body_missed c.args.body.now c.in-None.ensures
