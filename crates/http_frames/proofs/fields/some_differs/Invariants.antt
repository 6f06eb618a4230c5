use Rattle.std.proofs.Common.{◌≡◌, length, map}
use Rattle.std.specs.Prelude.{All}
use Rattle.httparse.specs.Spans.{IsHeaderWithin, header_bytes}
use Rattle.http_frames.specs.Fields.{some_differs}
use Rattle.http_frames.proofs.fields.some_differs.Given as goal

abbrev pub invariant-loop-header : goal.invariant-loop-header
invariant-loop-header l = record {
  within : All (IsHeaderWithin (length l.head)) l.rest;
  same : some_differs l.name l.value (map (header_bytes l.head) l.headers) ≡ some_differs l.name l.value (map (header_bytes l.head) l.rest);
}

abbrev pub decreases-loop-header : goal.decreases-loop-header
decreases-loop-header l = length l.rest
