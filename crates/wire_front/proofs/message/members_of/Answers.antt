use Rattle.wire_front.proofs.MemberLemmas.{members_made}
use Rattle.wire_front.proofs.message.members_of.Goals as goal

pub returns : goal.returns
returns c =
    members_made c.args.body.now c.in_ok-days.days.now c.in_ok-days.rest.now c.in_ok-key.key.now c.in_ok-key.rest.now c.in_ok-names.names.now c.in_ok-names.rest.now
    c.in_ok-rest.rest.now c.in_ok-request.request.now c.in_ok-days.ensures c.in_ok-key.ensures c.in_ok-names.ensures c.in_ok-rest.ensures c.in_ok-request.ensures
