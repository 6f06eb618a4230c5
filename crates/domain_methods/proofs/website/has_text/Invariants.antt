use Rattle.std.proofs.Common.{◌≡◌, length}
use Rattle.domain_methods.specs.Rules as rules
use Rattle.domain_methods.proofs.website.has_text.Given as goal

abbrev pub invariant-loop-rest : goal.invariant-loop-rest
invariant-loop-rest l = rules.has_text l.text l.rest ≡ rules.has_text l.fn.text l.fn.bytes

abbrev pub decreases-loop-rest : goal.decreases-loop-rest
decreases-loop-rest l = length l.rest
