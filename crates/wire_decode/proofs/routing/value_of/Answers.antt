use Rattle.http_frames.proofs.SizeLemmas.{size_is_text, size_parses}
use Rattle.wire_decode.proofs.routing.value_of.Goals as goal

pub unreachable-requires : goal.unreachable-requires
unreachable-requires c = c.in_default.ensures.cases.0 (size_is_text c.args.digits.now c.requires)

pub unreachable-requires-in-Err : goal.unreachable-requires-in-Err
unreachable-requires-in-Err c =
    let parsed = size_parses c.args.digits.now c.parse.result c.requires (rw c.in-Ok.ensures.cases.0 at c.parse.ensures.value.0) in
    let failed = c.in-Err.is in
    absurd cc
