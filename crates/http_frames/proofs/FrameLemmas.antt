-- What stands at the front of bytes: one thing, which stays whatever follows.
use Rattle.std.proofs.Common.{◌≡◌, ℕ, ◌+◌, ◌<◌, ◌≤◌, inl, inr, List, ◌++◌, length, take, drop, map, refl, sym, ap, subst, ◌∙◌, append_assoc, arith, length-append, append-nil, [], ◌∷◌}
use Rattle.std.proofs.lemmas.List.{take-append-drop, take-append-le, length-take-le}
use Rattle.httparse.specs.Grammar.{RequestHead, print_request, ReadsRequest, HasNoRequest, NeverHasRequest}
use Rattle.httparse.specs.Spans.{header_bytes}
use Rattle.httparse.specs.declared.spans.HeaderSpan.{HeaderSpan}
use Rattle.httparse.specs.declared.spans.RequestSpans.{RequestSpans}
use Rattle.httparse.proofs.GrammarLemmas.{ReadsRequest-append}
use Rattle.http_frames.specs.declared.fields.Framing.{Framing}
use Rattle.http_frames.specs.declared.fields.Framing.TheVariants.{Refused, Body}
use Rattle.http_frames.specs.declared.front.Front.TheVariants as fronts
use Rattle.http_frames.specs.declared.message.Message.{Message}
use Rattle.http_frames.specs.Fields.{framing_of}
use Rattle.http_frames.specs.Frames.{head_limit, body_limit, fields_of, IsFramed, HeadAt, IsTooLong, IsUnframed, IsUnfinished, IsUnfinishedUntil, IsBodyUntil, IsBodyBegun, MessageAt, TooLargeAt, FrontsStay}
use Rattle.http_frames.specs.Head.{head_window, IsWhole, message_at}

-- ---- what was read of the window

pub framing_found : (bytes window : List ℕ) (room headers : List HeaderSpan) (count : ℕ) (told framing : Framing) → window ≡ head_window bytes → headers ≡ take count room
    → told ≡ framing_of (map (header_bytes window) headers) → told ≡ framing → framing_of (map (header_bytes (head_window bytes)) (take count room)) ≡ framing
framing_found bytes window room headers count told framing same first is found =
    ap (λ (w : List ℕ). framing_of (map (header_bytes w) (take count room))) (sym same) ∙ ap (λ (l : List HeaderSpan). framing_of (map (header_bytes window) l)) (sym first)
    ∙ sym is ∙ found

pub message_found : (bytes window body body' : List ℕ) (room headers : List HeaderSpan) (spans : RequestSpans) (message : Message) → window ≡ head_window bytes
    → headers ≡ take spans.headers room → body ≡ body' → message ≡ message_at window headers spans body
    → message ≡ message_at (head_window bytes) (take spans.headers room) spans body'
message_found bytes window body body' room headers spans message same first cut is =
    is ∙ ap (λ (w : List ℕ). message_at w headers spans body) same ∙ ap (λ (l : List HeaderSpan). message_at (head_window bytes) l spans body) first
    ∙ ap (λ (b : List ℕ). message_at (head_window bytes) (take spans.headers room) spans b) cut

-- ---- what the head that was found says

module _ (bytes : List ℕ) (room : List HeaderSpan) (spans : RequestSpans) (whole : IsWhole bytes room spans) where
  framing_same : (framing : Framing) → framing_of (map (header_bytes (head_window bytes)) (take spans.headers room)) ≡ framing → framing_of (fields_of whole.head) ≡ framing
  framing_same framing is = ap framing_of (sym whole.is.parts.fields) ∙ is

  pub refused_stands : (status : ℕ) → framing_of (map (header_bytes (head_window bytes)) (take spans.headers room)) ≡ Refused status → IsUnframed bytes status
  refused_stands status is = inl (record { head = whole.head; rest = drop spans.len bytes; at = whole.is.at; refused = framing_same (Refused status) is })

  pub begun_stands : (size : ℕ) → framing_of (map (header_bytes (head_window bytes)) (take spans.headers room)) ≡ Body size → length (drop spans.len bytes) < size
      → IsUnfinishedUntil bytes (spans.len + size)
  begun_stands size is short = inr (record {
    begun = record { head = whole.head; rest = drop spans.len bytes; at = whole.is.at; size = size; framing = framing_same (Body size) is; short = short };
    all = omega (arith, whole.is.parts.len);
  })

  framed : (size : ℕ) → framing_of (map (header_bytes (head_window bytes)) (take spans.headers room)) ≡ Body size → size ≤ length (drop spans.len bytes)
      → IsFramed (print_request whole.head ++ take size (drop spans.len bytes)) whole.head (take size (drop spans.len bytes))
  framed size is enough = record {
    is = whole.is.at.reads.0;
    fits = whole.is.at.fits;
    size = framing_same (Body size) is ∙ ap (λ (n : ℕ). Body n) (sym (length-take-le size (drop spans.len bytes) enough));
    whole = refl;
  }

  used_length : (size : ℕ) → size ≤ length (drop spans.len bytes) → length (print_request whole.head ++ take size (drop spans.len bytes)) ≡ spans.len + size
  used_length size enough =
      omega (arith, length-append (print_request whole.head) (take size (drop spans.len bytes)), length-take-le size (drop spans.len bytes) enough, whole.is.parts.len)

  behind_used : (size : ℕ) → bytes ≡ (print_request whole.head ++ take size (drop spans.len bytes)) ++ drop size (drop spans.len bytes)
  behind_used size =
      whole.is.at.reads.1 ∙ ap (λ (t : List ℕ). print_request whole.head ++ t) (sym (take-append-drop size (drop spans.len bytes)))
      ∙ sym (append_assoc (print_request whole.head) (take size (drop spans.len bytes)) (drop size (drop spans.len bytes)))

  pub large_stands : (size : ℕ) → framing_of (map (header_bytes (head_window bytes)) (take spans.headers room)) ≡ Body size → size ≤ length (drop spans.len bytes) → body_limit < size
      → TooLargeAt bytes (spans.len + size)
  large_stands size is enough large = record {
    front = print_request whole.head ++ take size (drop spans.len bytes);
    rest = drop size (drop spans.len bytes);
    is = record {
      head = whole.head;
      body = take size (drop spans.len bytes);
      framed = framed size is enough;
      large = omega (arith, large, length-take-le size (drop spans.len bytes) enough);
    };
    long = used_length size enough;
    whole = behind_used size;
  }

  pub message_stands : (size : ℕ) → framing_of (map (header_bytes (head_window bytes)) (take spans.headers room)) ≡ Body size → size ≤ length (drop spans.len bytes) → size ≤ body_limit
      → (message : Message) → message ≡ message_at (head_window bytes) (take spans.headers room) spans (take size (drop spans.len bytes)) → MessageAt bytes message (spans.len + size)
  message_stands size is enough small message says = record {
    front = print_request whole.head ++ take size (drop spans.len bytes);
    rest = drop size (drop spans.len bytes);
    is = record {
      head = whole.head;
      body = take size (drop spans.len bytes);
      framed = framed size is enough;
      small = omega (arith, small, length-take-le size (drop spans.len bytes) enough);
      says = says ∙ rw (whole.is.parts.method, whole.is.parts.path, whole.is.parts.fields) refl;
    };
    long = used_length size enough;
    whole = behind_used size;
  }

-- ---- what stands stays

head_stays : (bytes more : List ℕ) (head : RequestHead) (rest : List ℕ) → HeadAt bytes head rest → HeadAt (bytes ++ more) head (rest ++ more)
head_stays bytes more head rest at = record { reads = ReadsRequest-append bytes head rest more at.reads; fits = at.fits }

never_stays : (bytes more : List ℕ) → NeverHasRequest bytes → NeverHasRequest (bytes ++ more)
never_stays bytes more never later head rest reads = never (more ++ later) head rest (subst (λ (t : List ℕ). ReadsRequest t head rest) (append_assoc bytes more later) reads)

too_long_stays : (bytes more : List ℕ) → IsTooLong bytes → IsTooLong (bytes ++ more)
too_long_stays bytes more long = record {
  long = omega (arith, long.long, length-append bytes more);
  none = subst (λ (t : List ℕ). HasNoRequest t) (sym (take-append-le head_limit bytes more (omega (arith, long.long)))) long.none;
}

pub unframed_stays : (bytes more : List ℕ) (status : ℕ) → IsUnframed bytes status → IsUnframed (bytes ++ more) status
unframed_stays bytes more status unframed = elim unframed [
  | inl refused ↦ inl (record { head = refused.head; rest = refused.rest ++ more; at = head_stays bytes more refused.head refused.rest refused.at; refused = refused.refused })
  | inr none ↦ inr (none.0, elim none.1 [ inl never ↦ inl (never_stays bytes more never) | inr long ↦ inr (too_long_stays bytes more long) ])
]

pub fronts_stay : FrontsStay
fronts_stay bytes more (fronts.Message message used) stands stays =
    record { front = stands.front; rest = stands.rest ++ more; is = stands.is; long = stands.long; whole = ap (λ (t : List ℕ). t ++ more) stands.whole ∙ append_assoc stands.front stands.rest more }
fronts_stay bytes more (fronts.TooLarge used) stands stays =
    record { front = stands.front; rest = stands.rest ++ more; is = stands.is; long = stands.long; whole = ap (λ (t : List ℕ). t ++ more) stands.whole ∙ append_assoc stands.front stands.rest more }
fronts_stay bytes more (fronts.Unframed status) stands stays = unframed_stays bytes more status stands
fronts_stay bytes more (fronts.Unfinished needs) stands stays = absurd (stays needs refl)

-- ---- what is unfinished

pub unfinished_until : (bytes : List ℕ) (needs : ℕ) → IsUnfinishedUntil bytes needs → IsUnfinished bytes
unfinished_until bytes needs until = elim until [ inl head ↦ inl head.0 | inr body ↦ inr body.begun ]

no_more : (bytes more : List ℕ) → length (bytes ++ more) < length bytes + 1 → more ≡ []
no_more bytes [] short = refl
no_more bytes (byte ∷ more) short = absurd (omega (arith, short, length-append bytes (byte ∷ more)))

body_goes_on : (bytes more : List ℕ) (needs : ℕ) (until : IsBodyUntil bytes needs) → length (bytes ++ more) < needs → IsBodyBegun (bytes ++ more)
body_goes_on bytes more needs until short =
    let begun = until.begun in record {
      head = begun.head;
      rest = begun.rest ++ more;
      at = head_stays bytes more begun.head begun.rest begun.at;
      size = begun.size;
      framing = begun.framing;
      short = omega (
        arith,
        short,
        until.all,
        length-append bytes more,
        length-append begun.rest more,
        ap length begun.at.reads.1,
        length-append (print_request begun.head) begun.rest,
      );
    }

-- fewer bytes than are needed stay unfinished
pub waits_until : (bytes : List ℕ) (needs : ℕ) → IsUnfinishedUntil bytes needs → (more : List ℕ) → length (bytes ++ more) < needs → IsUnfinished (bytes ++ more)
waits_until bytes needs until more short = elim until [
  | inl head ↦
      let nothing : more ≡ [] = no_more bytes more (omega (arith, short, head.1)) in
      subst (λ (t : List ℕ). IsUnfinished t) (sym (ap (λ (t : List ℕ). bytes ++ t) nothing ∙ append-nil bytes)) (inl head.0)
  | inr body ↦ inr (body_goes_on bytes more needs body short)
]
