use Rattle.std.proofs.Common.{arith}
use Rattle.der_text.specs.Front.{front}
use Rattle.der_text.proofs.Heads.{front_found}
use Rattle.der_text.proofs.front.read_front.Goals as goal

pub returns-clause-spelled : goal.returns-clause-spelled
returns-clause-spelled c = front_found _ _ (front c.in_ok-found.found) (λ i. omega (arith, c.type_inv.bytes i)) c.in_ok-found.ensures
