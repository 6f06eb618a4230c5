use Rattle.std.proofs.Common.{length, arith}
use Rattle.std.proofs.lemmas.List.{length-append}
use Rattle.der_text.specs.Tree.{length_octets}
use Rattle.der_text.proofs.laws.elements_have_their_length.Goals as goal

pub returns : goal.returns
returns c = λ tag content. omega (arith, length-append (length_octets (length content)) content)
