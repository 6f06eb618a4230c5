use Rattle.std.proofs.Common.{◌≡◌, drop}
use Rattle.der_text.specs.Content.{last_of}
use Rattle.der_text.proofs.content.has_zero_bits.Given as goal

abbrev pub invariant-loop-b : goal.invariant-loop-b
invariant-loop-b l = last_of l.last (drop l.b-index l.rest) ≡ last_of l.first l.rest
