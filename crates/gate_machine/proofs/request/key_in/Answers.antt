use Rattle.std.proofs.Common.{[], ◌∙◌}
use Rattle.gate_machine.proofs.LeastRule.{unruled, one_key}
use Rattle.gate_machine.proofs.request.key_in.Goals as goal

pub want_of_memory-requires : goal.want_of_memory-requires
want_of_memory-requires c = unruled c.args.request.now c.in-Err.fault c.in-Err.ensures.fault c.requires.kept

pub returns-in-Ok-clause-only : goal.returns-in-Ok-clause-only
returns-in-Ok-clause-only c = λ other is.
    let request = c.args.request.now in
    let laws = c.one_reading.ensures in
    is.same ∙ one_key request [] (laws.fields request) (laws.faultless request) (laws.fault request)
    (record { spki = c.in-Ok.fields.spki.now; kind = c.in-Ok.fields.kind; san = c.in-Ok.fields.san }) c.in-Ok.ensures.ok is.fields is.is
