use Rattle.wire_front.proofs.MessageLemmas.{one_message}
use Rattle.wire_front.proofs.law.one_message.Goals as goal

pub returns : goal.returns
returns c = one_message
