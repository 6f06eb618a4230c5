use Rattle.std.proofs.Common.{◌≡◌, length, map}
use Rattle.std.specs.Prelude.{All}
use Rattle.httparse.specs.Spans.{IsHeaderWithin, header_bytes}
use Rattle.http_frames.specs.Fields.{first_value}
use Rattle.http_frames.proofs.fields.first_value.Given as goal

abbrev pub invariant-loop-header : goal.invariant-loop-header
invariant-loop-header l = record {
  within : All (IsHeaderWithin (length l.head)) l.rest;
  same : first_value l.name (map (header_bytes l.head) l.headers) ≡ first_value l.name (map (header_bytes l.head) l.rest);
}

abbrev pub decreases-loop-header : goal.decreases-loop-header
decreases-loop-header l = length l.rest
