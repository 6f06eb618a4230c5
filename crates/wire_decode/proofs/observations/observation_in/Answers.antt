use Rattle.serde_json.specs.View.{view}
use Rattle.gate_entries.specs.Command.{HasNames}
use Rattle.wire_decode.proofs.Judgements.{exactly_holds}
use Rattle.wire_decode.proofs.observations.observation_in.Goals as goal

pub returns-clause-names : goal.returns-clause-names
returns-clause-names c =
    let read = c.observation_from-read in
    exactly_holds HasNames 4 (view c.args.body.now) read.result c.exactly.result read.ensures.names c.exactly.ensures
