use Rattle.http_frames.proofs.Streams.{passes_none, passes_more}
use Rattle.http_frames.proofs.law.one_passing.Goals as goal

pub returns : goal.returns
returns c = record { none = passes_none; more = passes_more }
