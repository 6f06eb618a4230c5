use Rattle.std.proofs.Common.{◌≡◌, false, not, take}
use Rattle.std.specs.List.{list_any}
use Rattle.domain_methods.specs.Rules.{leads_on}
use Rattle.domain_methods.proofs.website.leaves_web.Given as goal

abbrev pub invariant-loop-hop : goal.invariant-loop-hop
invariant-loop-hop l = list_any (λ hop. not (leads_on hop)) (take l.hop-index l.hops) ≡ false
