use Rattle.std.proofs.Common.{length, arith}
use Rattle.der_text.proofs.Heads.{two_octets, three_octets}
use Rattle.der_text.proofs.laws.a_head_is_shorter.Goals as goal

pub returns-clause-four : goal.returns-clause-four
returns-clause-four c = λ content few. omega (arith, three_octets (length content) few)

pub returns-clause-three : goal.returns-clause-three
returns-clause-three c = λ content few. omega (arith, two_octets (length content) few)
