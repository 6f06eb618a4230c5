use Rattle.std.proofs.Common.{ap, ap₂, ◌∙◌}
use Rattle.serde_json.specs.View.{view}
use Rattle.gate_entries.specs.Command.{HasNames}
use Rattle.wire_decode.proofs.Judgements.{exactly_holds}
use Rattle.wire_decode.specs.Bodies.{caa_from, caa_in}
use Rattle.wire_decode.specs.Judgement.{both, judged}
use Rattle.wire_decode.specs.Members.{exactly}
use Rattle.wire_decode.proofs.answers.caa_in.Goals as goal

pub returns-clause-exact : goal.returns-clause-exact
unfolding caa_in
returns-clause-exact c =
    let d = view c.args.body.now in
    let numbers = c.both-numbers.ensures ∙ ap₂ both c.u64_at.ensures c.u64_at-2.ensures in
    let parts = ap₂ both (ap₂ both c.in_ok-answers.ensures.exact c.in_ok-key.ensures) (ap₂ both c.in_ok-target.ensures.exact numbers) in
    c.exactly.ensures ∙ ap (exactly 5 d) (c.caa_from-read.ensures.exact ∙ ap (judged caa_from) parts)

pub returns-clause-names : goal.returns-clause-names
returns-clause-names c =
    let read = c.caa_from-read in
    exactly_holds HasNames 5 (view c.args.body.now) read.result c.exactly.result read.ensures.names c.exactly.ensures
