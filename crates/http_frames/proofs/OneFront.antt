-- Bytes stand for one front at most.
use Rattle.std.proofs.Common.{◌≡◌, ℕ, ◌+◌, ◌-◌, ◌<◌, ◌≤◌, ◌⊎◌, inl, inr, List, [], ◌++◌, length, take, refl, sym, ap, subst, ◌∙◌, append_assoc, arith, length-append}
use lib.Seq.{take-append-add}
use Rattle.std.proofs.lemmas.List.{take_at}
use Rattle.httparse.specs.Grammar.{RequestHead, print_request, EndsInTarget}
use Rattle.httparse.proofs.GrammarLemmas.{request_unique, ReadsRequest-append}
use Rattle.http_frames.specs.declared.fields.Framing.{Framing}
use Rattle.http_frames.specs.declared.fields.Framing.TheVariants.{Refused, Body}
use Rattle.http_frames.specs.declared.front.Front.{Front}
use Rattle.http_frames.specs.declared.front.Front.TheVariants as fronts
use Rattle.http_frames.specs.Fields.{framing_of}
use Rattle.http_frames.specs.Frames.{head_limit, body_limit, fields_of, message_of, IsFramed, HeadAt, IsNoHead, IsHeadBegun, IsOpen, Stands, AtMostOneFront}

-- ---- a head at the front

-- what a body of this size makes of what stands behind the head
abbrev BodyFront : RequestHead → List ℕ → ℕ → Front → Type 0
BodyFront head rest size (fronts.Message message used) =
    (size ≤ length rest) × (size ≤ body_limit) × (message ≡ message_of head (take size rest)) × (used ≡ length (print_request head) + size)
BodyFront head rest size (fronts.TooLarge used) = (size ≤ length rest) × (body_limit < size) × (used ≡ length (print_request head) + size)
BodyFront head rest size (fronts.Unframed status) = ⊥
BodyFront head rest size (fronts.Unfinished needs) = (length rest < size) × (needs ≡ length (print_request head) + size)

abbrev HeadFront : RequestHead → List ℕ → Framing → Front → Type 0
HeadFront head rest (Refused status) front = front ≡ fronts.Unframed status
HeadFront head rest (Body size) front = BodyFront head rest size front

record HeadSays (bytes : List ℕ) (front : Front) : Type 0 where
  head : RequestHead
  rest : List ℕ
  at : HeadAt bytes head rest
  says : HeadFront head rest (framing_of (fields_of head)) front

one_body : (head : RequestHead) (rest : List ℕ) (size : ℕ) (left right : Front) → BodyFront head rest size left → BodyFront head rest size right → left ≡ right
one_body head rest size (fronts.Message m used) (fronts.Message n also) x y = cc (x.2, y.2, x.3, y.3)
one_body head rest size (fronts.Message m used) (fronts.TooLarge also) x y = absurd (omega (arith, x.1, y.1))
one_body head rest size (fronts.Message m used) (fronts.Unframed status) x y = absurd y
one_body head rest size (fronts.Message m used) (fronts.Unfinished needs) x y = absurd (omega (arith, x.0, y.0))
one_body head rest size (fronts.TooLarge used) (fronts.Message n also) x y = absurd (omega (arith, x.1, y.1))
one_body head rest size (fronts.TooLarge used) (fronts.TooLarge also) x y = cc (x.2, y.2)
one_body head rest size (fronts.TooLarge used) (fronts.Unframed status) x y = absurd y
one_body head rest size (fronts.TooLarge used) (fronts.Unfinished needs) x y = absurd (omega (arith, x.0, y.0))
one_body head rest size (fronts.Unframed status) right x y = absurd x
one_body head rest size (fronts.Unfinished needs) (fronts.Message n also) x y = absurd (omega (arith, x.0, y.0))
one_body head rest size (fronts.Unfinished needs) (fronts.TooLarge also) x y = absurd (omega (arith, x.0, y.0))
one_body head rest size (fronts.Unfinished needs) (fronts.Unframed status) x y = absurd y
one_body head rest size (fronts.Unfinished needs) (fronts.Unfinished also) x y = cc (x.1, y.1)

one_framing : (head : RequestHead) (rest : List ℕ) (framing : Framing) (left right : Front) → HeadFront head rest framing left → HeadFront head rest framing right → left ≡ right
one_framing head rest (Refused status) left right x y = x ∙ sym y
one_framing head rest (Body size) left right x y = one_body head rest size left right x y

one_head : (bytes : List ℕ) (left right : Front) → HeadSays bytes left → HeadSays bytes right → left ≡ right
one_head bytes left right x y =
    let same = request_unique bytes y.head x.head y.rest x.rest y.at.reads x.at.reads in
    let moved = subst (λ (h : RequestHead). HeadFront h y.rest (framing_of (fields_of h)) right) same.0 y.says in
    one_framing x.head x.rest (framing_of (fields_of x.head)) left right x.says (subst (λ (r : List ℕ). HeadFront x.head r (framing_of (fields_of x.head)) right) same.1 moved)

-- ---- no head at the front

no_head_at : (bytes : List ℕ) (head : RequestHead) (rest : List ℕ) → IsNoHead bytes → HeadAt bytes head rest → ⊥
no_head_at bytes head rest none at = elim none [
  | inl never ↦ never [] head (rest ++ []) (ReadsRequest-append bytes head rest [] at.reads)
  | inr long ↦
      let left = head_limit - length (print_request head) in
      let room : length (print_request head) + left ≡ head_limit = omega (arith, at.fits) in
      let front : take head_limit bytes ≡ print_request head ++ take left rest =
      ap (λ (t : List ℕ). take head_limit t) at.reads.1 ∙ ap (λ (n : ℕ). take n (print_request head ++ rest)) (sym room)
      ∙ take-append-add (print_request head) rest left in
      long.none head (take left rest) (at.reads.0, front)
]

open_target : (bytes : List ℕ) → IsNoHead bytes → IsHeadBegun bytes → EndsInTarget bytes
open_target bytes none begun = elim none [
  | inl never ↦ elim begun.may [ inl may ↦ absurd (never may.0 may.1 [] may.2) | inr target ↦ target ]
  | inr long ↦ absurd (omega (arith, long.long, begun.short))
]

-- ---- what stands is one of three

abbrev Means : List ℕ → Front → Type 0
Means bytes front = HeadSays bytes front ⊎ ((IsNoHead bytes × (front ≡ fronts.Unframed 400)) ⊎ (IsHeadBegun bytes × (front ≡ fronts.Unfinished (length bytes + 1))))

framed_at : (bytes front rest : List ℕ) (head : RequestHead) (body : List ℕ) → IsFramed front head body → bytes ≡ front ++ rest → HeadAt bytes head (body ++ rest)
framed_at bytes front rest head body framed whole = record {
  reads = (framed.is, whole ∙ ap (λ (t : List ℕ). t ++ rest) framed.whole ∙ append_assoc (print_request head) body rest);
  fits = framed.fits;
}

framed_length : (front : List ℕ) (head : RequestHead) (body : List ℕ) (used : ℕ) → IsFramed front head body → length front ≡ used → used ≡ length (print_request head) + length body
framed_length front head body used framed long = omega (arith, long, ap length framed.whole, length-append (print_request head) body)

means : (bytes : List ℕ) (front : Front) → Stands bytes front → Means bytes front
means bytes (fronts.Message message used) stands =
    let is = stands.is in
    let body = is.body in inl (record {
      head = is.head;
      rest = body ++ stands.rest;
      at = framed_at bytes stands.front stands.rest is.head body is.framed stands.whole;
      says = subst (λ (f : Framing). HeadFront is.head (body ++ stands.rest) f (fronts.Message message used)) (sym is.framed.size) (
        omega (arith, length-append body stands.rest),
        is.small,
        is.says ∙ ap (message_of is.head) (sym (take_at body stands.rest (length body) refl)),
        framed_length stands.front is.head body used is.framed stands.long,
      );
    })
means bytes (fronts.TooLarge used) stands =
    let is = stands.is in
    let body = is.body in inl (record {
      head = is.head;
      rest = body ++ stands.rest;
      at = framed_at bytes stands.front stands.rest is.head body is.framed stands.whole;
      says = subst (λ (f : Framing). HeadFront is.head (body ++ stands.rest) f (fronts.TooLarge used)) (sym is.framed.size) (
        omega (arith, length-append body stands.rest),
        is.large,
        framed_length stands.front is.head body used is.framed stands.long,
      );
    })
means bytes (fronts.Unframed status) stands = elim stands [
  | inl refused ↦ inl (record {
    head = refused.head;
    rest = refused.rest;
    at = refused.at;
    says = subst (λ (f : Framing). HeadFront refused.head refused.rest f (fronts.Unframed status)) (sym refused.refused) refl;
  })
  | inr none ↦ inr (inl (none.1, ap (λ (s : ℕ). fronts.Unframed s) none.0))
]
means bytes (fronts.Unfinished needs) stands = elim stands [
  | inl begun ↦ inr (inr (begun.0, ap (λ (n : ℕ). fronts.Unfinished n) begun.1))
  | inr until ↦
      let begun = until.begun in inl (record {
        head = begun.head;
        rest = begun.rest;
        at = begun.at;
        says = subst (λ (f : Framing). HeadFront begun.head begun.rest f (fronts.Unfinished needs)) (sym begun.framing) (begun.short, until.all);
      })
]

unframed_open : (bytes : List ℕ) (front : Front) (status : ℕ) → EndsInTarget bytes → front ≡ fronts.Unframed status → IsOpen bytes front
unframed_open bytes front status target is = subst (λ (f : Front). IsOpen bytes f) (sym is) target

unfinished_open : (bytes : List ℕ) (front : Front) (needs : ℕ) → EndsInTarget bytes → front ≡ fronts.Unfinished needs → IsOpen bytes front
unfinished_open bytes front needs target is = subst (λ (f : Front). IsOpen bytes f) (sym is) target

pub one_front : AtMostOneFront
one_front bytes left right x y = elim (means bytes left x) [
  | inl head ↦ elim (means bytes right y) [
    | inl other ↦ inl (one_head bytes left right head other)
    | inr other ↦ elim other [
      | inl none ↦ absurd (no_head_at bytes head.head head.rest none.0 head.at)
      | inr begun ↦ absurd (begun.0.none head.head head.rest head.at.reads)
    ]
  ]
  | inr case ↦ elim case [
    | inl none ↦ elim (means bytes right y) [
      | inl head ↦ absurd (no_head_at bytes head.head head.rest none.0 head.at)
      | inr other ↦ elim other [
        | inl also ↦ inl (none.1 ∙ sym also.1)
        | inr begun ↦
            let target = open_target bytes none.0 begun.0 in
            inr (unframed_open bytes left 400 target none.1, unfinished_open bytes right (length bytes + 1) target begun.1)
      ]
    ]
    | inr begun ↦ elim (means bytes right y) [
      | inl head ↦ absurd (begun.0.none head.head head.rest head.at.reads)
      | inr other ↦ elim other [
        | inl none ↦
            let target = open_target bytes none.0 begun.0 in
            inr (unfinished_open bytes left (length bytes + 1) target begun.1, unframed_open bytes right 400 target none.1)
        | inr also ↦ inl (begun.1 ∙ sym also.1)
      ]
    ]
  ]
]
