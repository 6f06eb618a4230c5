use Rattle.std.proofs.Common.{sym, ◌∙◌}
use Rattle.domain_methods.proofs.CoverLemmas.{Decides-covers}
use Rattle.domain_methods.proofs.covering.covers.Goals as goal

pub returns-clause-meaning : goal.returns-clause-meaning
returns-clause-meaning c =
    let decides = Decides-covers c.args.method c.args.proved.now c.args.wanted.now c.args.s.now in
    (λ h. decides.0 (sym c.covers_by.ensures ∙ h), λ h. c.covers_by.ensures ∙ decides.1 h)
