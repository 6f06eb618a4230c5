use Rattle.std.proofs.Common.{arith}
use Rattle.gate_engine.proofs.Sizes.{certificate_size}
use Rattle.gate_engine.proofs.sending.certify.Goals as goal

pub certificate-requires-clause-room : goal.certificate-requires-clause-room
certificate-requires-clause-room c =
    omega (arith, certificate_size c.a_head_is_short.ensures c.args.body.now c.args.signature.now c.requires.signature.most, c.requires.room)
