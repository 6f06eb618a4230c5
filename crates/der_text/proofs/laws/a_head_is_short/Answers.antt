use Rattle.std.proofs.Common.{length, arith}
use Rattle.der_text.proofs.Heads.{few_octets}
use Rattle.der_text.proofs.laws.a_head_is_short.Goals as goal

pub returns : goal.returns
returns c = λ content. omega (arith, few_octets (length content))
