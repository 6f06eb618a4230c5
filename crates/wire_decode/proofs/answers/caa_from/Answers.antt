use Rattle.std.proofs.Common.{sym, ap, ap₂, subst, ◌∙◌, IfOk}
use Rattle.gate_entries.specs.Target.{IsTarget}
use Rattle.wire_decode.specs.Bodies.{caa_from}
use Rattle.wire_decode.specs.Judgement.{both, judged}
use Rattle.wire_decode.proofs.Judgements.{left_holds, right_holds}
use Rattle.wire_decode.proofs.answers.caa_from.Goals as goal

pub caa_with-requires : goal.caa_with-requires
caa_with-requires c =
    let inner = subst (λ x. IfOk x (λ y. IsTarget y.0)) (sym c.both-2.ensures) (left_holds IsTarget c.args.target c.args.numbers c.requires) in
    subst (λ x. IfOk x (λ y. IsTarget y.1.0)) (sym c.both-3.ensures) (right_holds (λ y. IsTarget y.0) c.both.result c.both-2.result inner)

pub returns-clause-exact : goal.returns-clause-exact
returns-clause-exact c = c.caa_with.ensures.exact ∙ ap (judged caa_from) (c.both-3.ensures ∙ ap₂ both c.both.ensures c.both-2.ensures)
