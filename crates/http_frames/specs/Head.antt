-- What the parser of heads tells of the bytes at the front.
use Rattle.std.specs.Prelude.{ℕ, List, take, drop, map}
use Rattle.httparse.specs.Grammar.{RequestHead}
use Rattle.httparse.specs.declared.spans.HeaderSpan.{HeaderSpan}
use Rattle.httparse.specs.declared.spans.RequestSpans.{RequestSpans}
use Rattle.httparse.specs.Spans.{IsRequestAt, IsRequestWithin, header_bytes, span_bytes}
use Rattle.http_frames.specs.Fields.{token_of, is_last}
use Rattle.http_frames.specs.declared.message.Message.{Message}
use Rattle.http_frames.specs.declared.head.HeadFound.{HeadFound}
use Rattle.http_frames.specs.declared.head.HeadFound.TheVariants as heads
use Rattle.http_frames.specs.Frames.{head_limit, HeadAt, IsNoHead, IsHeadBegun}

-- the bytes at the front that a head can have
abbrev pub head_window : List ℕ → List ℕ
head_window bytes = take head_limit bytes

-- the spans are those of the head at the front
pub record IsHeadOf (bytes : List ℕ) (room : List HeaderSpan) (spans : RequestSpans) (head : RequestHead) : Type 0 where
  pub at : HeadAt bytes head (drop spans.len bytes)
  pub parts : IsRequestAt (head_window bytes) room spans head

-- the spans are those of a head, and lie within it
pub record IsWhole (bytes : List ℕ) (room : List HeaderSpan) (spans : RequestSpans) : Type 0 where
  pub head : RequestHead
  pub is : IsHeadOf bytes room spans head
  pub within : IsRequestWithin (head_window bytes) room spans

abbrev pub TellsHead : List ℕ → List HeaderSpan → HeadFound → Type 0
TellsHead bytes room (heads.Whole spans) = IsWhole bytes room spans
TellsHead bytes room heads.Unfinished = IsHeadBegun bytes
TellsHead bytes room heads.Never = IsNoHead bytes

-- what the parts that the spans cover say as a message
abbrev pub message_at : List ℕ → List HeaderSpan → RequestSpans → List ℕ → Message
message_at bytes headers spans body = let fields = map (header_bytes bytes) headers in
    record { method = span_bytes bytes spans.method; path = span_bytes bytes spans.path; token = token_of fields; body = body; last = is_last fields }
