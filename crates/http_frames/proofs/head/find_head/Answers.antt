use Rattle.std.proofs.Common.{length}
use Rattle.http_frames.proofs.HeadLemmas.{whole_found, long_found, begun_found, never_found}
use Rattle.http_frames.proofs.head.find_head.Goals as goal

pub returns-in-Ok-Complete : goal.returns-in-Ok-Complete
returns-in-Ok-Complete c =
    whole_found c.args.bytes.now c.args.window.now c.requires.window c.parse_request.result c.parse_request.new.headers c.in-Ok-Complete.field-0 c.in-Ok-Complete.spans
    c.in-Ok-Complete.is c.in-Ok-Complete.field-0-is c.parse_request.ensures.within c.parse_request.ensures.complete

pub returns-in-Ok-Partial : goal.returns-in-Ok-Partial
returns-in-Ok-Partial c =
    long_found c.args.bytes.now c.args.window.now c.requires.window c.parse_request.result c.in-Ok-Partial.field-0 c.in-Ok-Partial.is c.in-Ok-Partial.field-0-is
    c.if-bytes-gt-HEAD_LIMIT.true c.parse_request.ensures.partial

pub returns-in-Ok-Partial-2 : goal.returns-in-Ok-Partial-2
returns-in-Ok-Partial-2 c =
    begun_found c.args.bytes.now c.args.window.now c.requires.window c.parse_request.result c.in-Ok-Partial.field-0 c.in-Ok-Partial.is c.in-Ok-Partial.field-0-is
    c.if-bytes-gt-HEAD_LIMIT.false c.parse_request.ensures.partial c.parse_request.ensures.unfinished

pub returns-in-Err : goal.returns-in-Err
returns-in-Err c =
    never_found c.args.bytes.now c.args.window.now c.requires.window c.parse_request.result (length c.args.room.now) c.in-Err.field-0 c.in-Err.is c.requires.room
    c.parse_request.ensures.invalid c.parse_request.ensures.too_many
