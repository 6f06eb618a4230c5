-- Heads at the front of bytes, and the bytes that a head can have.
use Rattle.std.proofs.Common.{◌≡◌, ◌≢◌, ◌⊎◌, ℕ, ◌*◌, ◌<◌, ◌≤◌, inl, inr, List, [], ◌∷◌, ◌++◌, length, drop, refl, sym, ap, subst, ◌∙◌, append_assoc, arith, length-append}
use Rattle.std.specs.List.{flat_map}
use Rattle.std.specs.Prelude.{All, Result, Ok, Err}
use Rattle.std.proofs.lemmas.List.{take_all, take-append-drop, drop-append-le, length-take}
use Rattle.std.proofs.lemmas.List.Elements.{All-head, All-tail, All-weaker}
use Rattle.httparse.specs.Grammar.{LineEnd, Field, IsField, print_field, print_end, print_section, print_blank, print_version, RequestHead, print_request, ReadsRequest, HasNoRequest, NeverHasRequest, MayBecomeRequest}
use Rattle.httparse.specs.Spans.{RequestExceeds, IsHeaderWithin, IsRequestAt, IsRequestOf, IsRequestWithin}
use Rattle.httparse.specs.declared.spans.HeaderSpan.{HeaderSpan}
use Rattle.httparse.specs.declared.spans.RequestSpans.{RequestSpans}
use Rattle.httparse.proofs.GrammarLemmas.{ReadsRequest-append, print_request-append}
use Rattle.httparse.specs.Outcome.{IfComplete, OnPartial, OnInvalid, OnTooManyHeaders}
use Rattle.httparse.specs.declared.Error.{Error}
use Rattle.httparse.specs.declared.Error.TheVariants as errors
use Rattle.httparse.specs.declared.Status.{Status}
use Rattle.httparse.specs.declared.Status.TheVariants.{Complete, Partial}
use Rattle.http_frames.specs.Frames.{head_limit, IsNoHead, IsHeadBegun}
use Rattle.http_frames.specs.Head.{head_window, IsHeadOf, IsWhole}

-- ---- the window

pub whole_window : (bytes : List ℕ) → length bytes ≤ head_limit → bytes ≡ head_window bytes
whole_window bytes short = sym (take_all head_limit bytes short)

window_length : (bytes : List ℕ) → length (head_window bytes) ≤ head_limit
window_length bytes = omega (arith, length-take head_limit bytes)

-- what never follows the window never follows the bytes
never_behind : (bytes : List ℕ) → NeverHasRequest (head_window bytes) → NeverHasRequest bytes
never_behind bytes never more head rest reads =
    let whole : head_window bytes ++ (drop head_limit bytes ++ more) ≡ bytes ++ more =
    sym (append_assoc (head_window bytes) (drop head_limit bytes) more) ∙ ap (λ (t : List ℕ). t ++ more) (take-append-drop head_limit bytes) in
    never (drop head_limit bytes ++ more) head rest (subst (λ (t : List ℕ). ReadsRequest t head rest) (sym whole) reads)

-- ---- a field line has three bytes at least

end_some : (end : LineEnd) → 1 ≤ length (print_end end)
end_some LineEnd.crlf = omega arith
end_some LineEnd.lf = omega arith

three_parts : (a b c : List ℕ) → 1 ≤ length a → 1 ≤ length c → 3 ≤ length (a ++ 58 ∷ b ++ c)
three_parts a b c first last = omega (arith, first, last, length-append (a ++ 58 ∷ b) c, length-append a (58 ∷ b))

field_some : (field : Field) → IsField field → 3 ≤ length (print_field field)
field_some field is = three_parts field.name field.raw (print_end field.end) is.name.0 (end_some field.end)

fields_some : (fields : List Field) → All IsField fields → 3 * length fields ≤ length (flat_map print_field fields)
fields_some [] are = omega arith
fields_some (field ∷ fields) are =
    omega (arith, field_some field (All-head IsField field fields are), fields_some fields (All-tail IsField field fields are), length-append (print_field field) (flat_map print_field fields))

behind_six : (a b c d e s : List ℕ) → length s ≤ length (a ++ (b ++ 32 ∷ (c ++ 32 ∷ (d ++ (e ++ (s ++ []))))))
behind_six a b c d e s = omega (
  arith,
  length-append a (b ++ 32 ∷ (c ++ 32 ∷ (d ++ (e ++ (s ++ []))))),
  length-append b (32 ∷ (c ++ 32 ∷ (d ++ (e ++ (s ++ []))))),
  length-append c (32 ∷ (d ++ (e ++ (s ++ [])))),
  length-append d (e ++ (s ++ [])),
  length-append e (s ++ []),
  length-append s [],
)

head_of_lines : (head : RequestHead) → All IsField head.fields → 3 * length head.fields ≤ length (print_request head ++ [])
head_of_lines head are = omega (
  arith,
  fields_some head.fields are,
  length-append (flat_map print_field head.fields) (print_end head.last),
  behind_six (print_blank head.blank) head.method head.target (print_version head.minor) (print_end head.line_end) (print_section head.fields head.last),
  ap length (print_request-append head []),
)

too_many : (bytes : List ℕ) → RequestExceeds 4096 (head_window bytes) → ⊥
too_many bytes exceeds = omega (
  arith,
  exceeds.5,
  head_of_lines exceeds.3 exceeds.4.0.fields,
  ap length exceeds.4.1,
  length-append exceeds.0 (10 ∷ []),
  ap length exceeds.2,
  length-append exceeds.0 exceeds.1,
  window_length bytes,
)

-- a head can't have 4,097 lines
no_more_lines : (bytes window : List ℕ) (room : ℕ) → window ≡ head_window bytes → room ≡ 4096 → RequestExceeds room window → ⊥
no_more_lines bytes window room same is exceeds =
    too_many bytes (subst (λ (n : ℕ). RequestExceeds n (head_window bytes)) is (subst (λ (w : List ℕ). RequestExceeds room w) same exceeds))

-- ---- a head within the window

head_at : (bytes : List ℕ) (room : List HeaderSpan) (spans : RequestSpans) (head : RequestHead) → spans.len ≤ length (head_window bytes)
    → IsRequestAt (head_window bytes) room spans head → IsHeadOf bytes room spans head
head_at bytes room spans head within parts =
    let later = drop head_limit bytes in
    let whole : head_window bytes ++ later ≡ bytes = take-append-drop head_limit bytes in
    let behind : drop spans.len (head_window bytes) ++ later ≡ drop spans.len bytes =
    sym (drop-append-le spans.len (head_window bytes) later within) ∙ ap (λ (t : List ℕ). drop spans.len t) whole in
    let long = ReadsRequest-append (head_window bytes) head (drop spans.len (head_window bytes)) later parts.reads in
    record {
      at = record {
        reads = subst (λ (t : List ℕ). ReadsRequest bytes head t) behind
            (subst (λ (t : List ℕ). ReadsRequest t head (drop spans.len (head_window bytes) ++ later)) whole long);
        fits = omega (arith, within, parts.len, window_length bytes);
      };
      parts = parts;
    }

is_too_many : (error : Error) → (error ≡ errors.TooManyHeaders) ⊎ (error ≢ errors.TooManyHeaders)
is_too_many errors.TooManyHeaders = inl refl
is_too_many errors.HeaderName = inr (λ e. cc e)
is_too_many errors.HeaderValue = inr (λ e. cc e)
is_too_many errors.NewLine = inr (λ e. cc e)
is_too_many errors.Status = inr (λ e. cc e)
is_too_many errors.Token = inr (λ e. cc e)
is_too_many errors.Version = inr (λ e. cc e)

-- ---- what the parser told

if_complete : {A E : Type 0} (told : Result (Status A) E) (status : Status A) (value : A) (P : A → Type 0) → told ≡ Ok status → status ≡ Complete value → IfComplete told P → P value
if_complete {A = A} {E = E} told status value P is also holds = subst (λ (t : Result (Status A) E). IfComplete t P) (is ∙ ap (λ (s : Status A). Ok s) also) holds

on_partial : {A E : Type 0} (told : Result (Status A) E) (status : Status A) (P : Type 0) → told ≡ Ok status → status ≡ Partial → OnPartial told P → P
on_partial {A = A} {E = E} told status P is also holds = subst (λ (t : Result (Status A) E). OnPartial t P) (is ∙ ap (λ (s : Status A). Ok s) also) holds

module _ (bytes window : List ℕ) (same : window ≡ head_window bytes) (told : Result (Status RequestSpans) Error) where
  pub whole_found : (room : List HeaderSpan) (status : Status RequestSpans) (spans : RequestSpans) → told ≡ Ok status → status ≡ Complete spans
      → IfComplete told (IsRequestWithin window room) → IfComplete told (IsRequestOf window room) → IsWhole bytes room spans
  whole_found room status spans is also inside parts =
      let found = if_complete told status spans (IsRequestOf window room) is also parts in
      let within : IsRequestWithin (head_window bytes) room spans =
      subst (λ (w : List ℕ). IsRequestWithin w room spans) same (if_complete told status spans (IsRequestWithin window room) is also inside) in
      let at : IsRequestAt (head_window bytes) room spans found.0 = subst (λ (w : List ℕ). IsRequestAt w room spans found.0) same found.1 in
      record { head = found.0; is = head_at bytes room spans found.0 within.section.len_fits at; within = within }

  pub long_found : (status : Status RequestSpans) → told ≡ Ok status → status ≡ Partial → head_limit < length bytes → OnPartial told (HasNoRequest window) → IsNoHead bytes
  long_found status is also long none =
      inr (record { long = long; none = subst (λ (w : List ℕ). HasNoRequest w) same (on_partial told status (HasNoRequest window) is also none) })

  pub begun_found : (status : Status RequestSpans) → told ≡ Ok status → status ≡ Partial → length bytes ≤ head_limit → OnPartial told (HasNoRequest window)
      → OnPartial told (MayBecomeRequest window) → IsHeadBegun bytes
  begun_found status is also short none may =
      let all : window ≡ bytes = same ∙ sym (whole_window bytes short) in
      record {
        short = short;
        none = subst (λ (w : List ℕ). HasNoRequest w) all (on_partial told status (HasNoRequest window) is also none);
        may = subst (λ (w : List ℕ). MayBecomeRequest w) all (on_partial told status (MayBecomeRequest window) is also may);
      }

  pub never_found : (room : ℕ) (error : Error) → told ≡ Err error → room ≡ 4096 → OnInvalid told (NeverHasRequest window)
      → OnTooManyHeaders told (RequestExceeds room window) → IsNoHead bytes
  never_found room error is large invalid many =
      let never : NeverHasRequest window = elim (is_too_many error) [
        | inl lines ↦ absurd (no_more_lines bytes window room same large (many (is ∙ ap (λ (e : Error). Err e) lines)))
        | inr other ↦ subst (λ (t : Result (Status RequestSpans) Error). OnInvalid t (NeverHasRequest window)) is invalid other
      ] in inl (never_behind bytes (subst (λ (w : List ℕ). NeverHasRequest w) same never))

-- spans within the first bytes are within all of them
pub headers_within : (least most : ℕ) → least ≤ most → (headers : List HeaderSpan) → All (IsHeaderWithin least) headers → All (IsHeaderWithin most) headers
headers_within least most le headers are =
    All-weaker (IsHeaderWithin least) (IsHeaderWithin most) (λ header within. ((within.0.0, omega (arith, le, within.0.1)), (within.1.0, omega (arith, le, within.1.1)))) headers are
