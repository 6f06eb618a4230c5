use Rattle.std.proofs.Common.{sym, ap, subst, ◌∙◌, IfOk}
use Rattle.gate_entries.specs.Target.{IsTarget}
use Rattle.wire_decode.specs.Bodies.{challenge_from}
use Rattle.wire_decode.specs.Judgement.{both, judged}
use Rattle.wire_decode.proofs.Judgements.{right_holds}
use Rattle.wire_decode.proofs.orders.challenge_from.Goals as goal

pub challenge_with-requires : goal.challenge_with-requires
challenge_with-requires c =
    let inner = subst (λ x. IfOk x (λ y. IsTarget y.1)) (sym c.both.ensures) (right_holds IsTarget c.args.method c.args.target c.requires) in
    subst (λ x. IfOk x (λ y. IsTarget y.1.1)) (sym c.both-2.ensures) (right_holds (λ y. IsTarget y.1) c.args.key c.both.result inner)

pub returns-clause-exact : goal.returns-clause-exact
returns-clause-exact c =
    c.challenge_with.ensures.exact ∙ ap (judged (challenge_from c.args.order)) (c.both-2.ensures ∙ ap (both c.args.key) c.both.ensures)
