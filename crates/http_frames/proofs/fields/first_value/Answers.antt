use Rattle.std.proofs.Common.{[], sym, ◌∙◌, length}
use Rattle.std.proofs.lemmas.List.Elements.{All-rest}
use Rattle.httparse.specs.Spans.{IsHeaderWithin}
use Rattle.http_frames.proofs.FieldLemmas.{first_later}
use Rattle.http_frames.proofs.fields.first_value.Goals as goal

pub loop-header-preserved : goal.loop-header-preserved
loop-header-preserved c = record {
  within = All-rest (IsHeaderWithin (length c.args.head.now)) c.in-Some.header.now c.in-Some.later.now c.loop-header.rest.now c.in-Some.ensures.cases.0 c.loop-header.invariant.within;
  same = first_later c.args.head.now c.args.name.now [] c.args.headers.now c.loop-header.rest.now c.in-Some.later.now c.in-Some.header.now c.in-Some.ensures.cases.0
      (sym c.has_name.ensures ∙ c.if-has_name.false) c.loop-header.invariant.same;
}
