-- What stands at the front of the bytes that a sender writes: a message, one whose body is too large, one whose end can't be
-- known, or the beginning of one (RFC 9112, sections 2 and 6).
use Rattle.std.specs.Prelude.{◌≡◌, ◌≢◌, ℕ, ◌+◌, ◌<◌, ◌≤◌, ◌⊎◌, List, ◌++◌, length, take, map}
use Rattle.httparse.specs.Grammar.{RequestHead, print_request, IsRequestHead, ReadsRequest, HasNoRequest, NeverHasRequest, MayBecomeRequest, EndsInTarget}
use Rattle.httparse.specs.Spans.{name_and_value}
use Rattle.http_frames.specs.declared.message.Message.{Message}
use Rattle.http_frames.specs.declared.fields.Framing.TheVariants.{Refused, Body}
use Rattle.http_frames.specs.declared.front.Front.{Front}
use Rattle.http_frames.specs.declared.front.Front.TheVariants as fronts
use Rattle.http_frames.specs.Fields.{Fields, framing_of, token_of, is_last}

-- the most bytes of a head
abbrev pub head_limit : ℕ
head_limit = 8192

-- the most bytes of a body that is read
abbrev pub body_limit : ℕ
body_limit = 65536

-- the names and values of a head's fields, without the white space around the values
abbrev pub fields_of : RequestHead → Fields
fields_of head = map name_and_value head.fields

-- the bytes are a head that isn't too long, and a body as long as the head says
pub record IsFramed (bytes : List ℕ) (head : RequestHead) (body : List ℕ) : Type 0 where
  pub is : IsRequestHead head
  pub fits : length (print_request head) ≤ head_limit
  pub size : framing_of (fields_of head) ≡ Body (length body)
  pub whole : bytes ≡ print_request head ++ body

-- what a head and a body say
abbrev pub message_of : RequestHead → List ℕ → Message
message_of head body = record { method = head.method; path = head.target; token = token_of (fields_of head); body = body; last = is_last (fields_of head) }

-- the bytes are this message
pub record IsMessage (bytes : List ℕ) (message : Message) : Type 0 where
  pub head : RequestHead
  pub body : List ℕ
  pub framed : IsFramed bytes head body
  pub small : length body ≤ body_limit
  pub says : message ≡ message_of head body

-- the bytes are a message whose body is too large to be read
pub record IsTooLarge (bytes : List ℕ) : Type 0 where
  pub head : RequestHead
  pub body : List ℕ
  pub framed : IsFramed bytes head body
  pub large : body_limit < length body

-- a whole head that isn't too long stands at the front, and then the rest
pub record HeadAt (bytes : List ℕ) (head : RequestHead) (rest : List ℕ) : Type 0 where
  pub reads : ReadsRequest bytes head rest
  pub fits : length (print_request head) ≤ head_limit

-- the head at the front is refused with this status
pub record IsRefusedHead (bytes : List ℕ) (status : ℕ) : Type 0 where
  pub head : RequestHead
  pub rest : List ℕ
  pub at : HeadAt bytes head rest
  pub refused : framing_of (fields_of head) ≡ Refused status

-- more bytes than a head may have, and no head within those
pub record IsTooLong (bytes : List ℕ) : Type 0 where
  pub long : head_limit < length bytes
  pub none : HasNoRequest (take head_limit bytes)

-- no head stands at the front whatever bytes follow, or only one that is too long
abbrev pub IsNoHead : List ℕ → Type 0
IsNoHead bytes = NeverHasRequest bytes ⊎ IsTooLong bytes

-- where the message at the front ends can't be known; it is answered with this status
abbrev pub IsUnframed : List ℕ → ℕ → Type 0
IsUnframed bytes status = IsRefusedHead bytes status ⊎ ((status ≡ 400) × IsNoHead bytes)

-- no whole head stands at the front, and bytes can follow that make one
pub record IsHeadBegun (bytes : List ℕ) : Type 0 where
  pub short : length bytes ≤ head_limit
  pub none : HasNoRequest bytes
  pub may : MayBecomeRequest bytes

-- a head stands at the front, and less behind it than it says
pub record IsBodyBegun (bytes : List ℕ) : Type 0 where
  pub head : RequestHead
  pub rest : List ℕ
  pub at : HeadAt bytes head rest
  pub size : ℕ
  pub framing : framing_of (fields_of head) ≡ Body size
  pub short : length rest < size

-- the bytes end inside a head or a body
abbrev pub IsUnfinished : List ℕ → Type 0
IsUnfinished bytes = IsHeadBegun bytes ⊎ IsBodyBegun bytes

-- a body that is begun, and how many bytes the head and the body have
pub record IsBodyUntil (bytes : List ℕ) (needs : ℕ) : Type 0 where
  pub begun : IsBodyBegun bytes
  pub all : needs ≡ length (print_request begun.head) + begun.size

-- the bytes end inside a head or a body, and more isn't known before there are so many
abbrev pub IsUnfinishedUntil : List ℕ → ℕ → Type 0
IsUnfinishedUntil bytes needs = (IsHeadBegun bytes × (needs ≡ length bytes + 1)) ⊎ IsBodyUntil bytes needs

-- bytes of which so many are a message, or one that is too large
pub record MessageAt (bytes : List ℕ) (message : Message) (used : ℕ) : Type 0 where
  pub front : List ℕ
  pub rest : List ℕ
  pub is : IsMessage front message
  pub long : length front ≡ used
  pub whole : bytes ≡ front ++ rest

pub record TooLargeAt (bytes : List ℕ) (used : ℕ) : Type 0 where
  pub front : List ℕ
  pub rest : List ℕ
  pub is : IsTooLarge front
  pub long : length front ≡ used
  pub whole : bytes ≡ front ++ rest

-- what stands at the front of the bytes
abbrev pub Stands : List ℕ → Front → Type 0
Stands bytes (fronts.Message message used) = MessageAt bytes message used
Stands bytes (fronts.TooLarge used) = TooLargeAt bytes used
Stands bytes (fronts.Unframed status) = IsUnframed bytes status
Stands bytes (fronts.Unfinished needs) = IsUnfinishedUntil bytes needs

-- the bytes end inside a target, and it is left open whether they are refused or unfinished: that a target isn't UTF-8 is told
-- at its end
abbrev pub IsOpen : List ℕ → Front → Type 0
IsOpen bytes (fronts.Unframed status) = EndsInTarget bytes
IsOpen bytes (fronts.Unfinished needs) = EndsInTarget bytes
IsOpen bytes other = ⊥

-- one thing at most stands at the front of bytes
abbrev pub AtMostOneFront : Type 0
AtMostOneFront = (bytes : List ℕ) (left right : Front) → Stands bytes left → Stands bytes right → (left ≡ right) ⊎ (IsOpen bytes left × IsOpen bytes right)

-- what stands at the front stays there, whatever bytes follow
abbrev pub FrontsStay : Type 0
FrontsStay = (bytes more : List ℕ) (front : Front) → Stands bytes front → ((needs : ℕ) → front ≢ fronts.Unfinished needs) → Stands (bytes ++ more) front
