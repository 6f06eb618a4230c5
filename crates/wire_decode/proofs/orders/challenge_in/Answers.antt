use Rattle.std.proofs.Common.{ap, ap₂, ◌∙◌}
use Rattle.serde_json.specs.View.{view}
use Rattle.gate_entries.specs.Command.{HasNames}
use Rattle.wire_decode.proofs.Judgements.{exactly_holds}
use Rattle.wire_decode.specs.Bodies.{challenge_from, challenge_in}
use Rattle.wire_decode.specs.Judgement.{both, judged}
use Rattle.wire_decode.specs.Members.{exactly}
use Rattle.wire_decode.proofs.orders.challenge_in.Goals as goal

pub returns-clause-exact : goal.returns-clause-exact
unfolding challenge_in
returns-clause-exact c =
    let d = view c.args.body.now in
    let parts = ap₂ both c.in_ok-key.ensures (ap₂ both c.method_at-method.ensures c.in_ok-target.ensures.exact) in
    c.exactly.ensures ∙ ap (exactly 3 d) (c.challenge_from-read.ensures.exact ∙ ap (judged (challenge_from c.args.order)) parts)

pub returns-clause-names : goal.returns-clause-names
returns-clause-names c =
    let read = c.challenge_from-read in
    exactly_holds HasNames 3 (view c.args.body.now) read.result c.exactly.result read.ensures.names c.exactly.ensures
