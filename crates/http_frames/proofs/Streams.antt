-- Bytes that pass a wire.
use Rattle.std.proofs.Common.{◌≡◌, ℕ, ◌-◌, ◌≤◌, ◌<◌, drop, take, List, [], ◌++◌, Option, Some, None, refl, sym, ap, subst, ◌∙◌, append_assoc, append-nil, length, length-append, arith}
use Rattle.std.specs.Prelude.{IfSome}
use Rattle.std.specs.Io.KnownBytes.{prepend_known, Consumes}
use Rattle.plant.specs.Stream.{SourceTold}
use Rattle.std.proofs.lemmas.List.{take_at, drop_at, length-drop}
use Rattle.http_frames.specs.declared.message.Message.{Message}
use Rattle.http_frames.specs.declared.wire.Got.{Got}
use Rattle.http_frames.specs.declared.wire.Got.TheVariants as got
use Rattle.http_frames.specs.Frames.{MessageAt, TooLargeAt, IsUnframed, IsUnfinished, Stands}
use Rattle.http_frames.specs.declared.front.Front.{Front}
use Rattle.http_frames.specs.declared.front.Front.TheVariants as fronts
use Rattle.http_frames.specs.Stream.{GrowsSome, Awaits, WireState, Passes, PassesSome, Takes, Tells, Grows, IsFront}
use Rattle.http_frames.proofs.FrameLemmas.{unframed_stays}

none_gone : (held : List ℕ) (left : Option (List ℕ)) → Consumes (prepend_known held left) (prepend_known held left) []
none_gone held None = tt
none_gone held (Some left) = refl

pub passes_none : (wire : WireState) (source : SourceTold) → Passes wire source wire source []
passes_none wire source = record { gone = none_gone wire.held source.left; count = omega arith }

gone_more : (a b c : Option (List ℕ)) (left right : List ℕ) → Consumes a b left → Consumes b c right → Consumes a c (left ++ right)
gone_more None b c left right first second = tt
gone_more (Some a) None c left right first second = absurd first
gone_more (Some a) (Some b) None left right first second = absurd second
gone_more (Some a) (Some b) (Some c) left right first second = first ∙ ap (λ (l : List ℕ). left ++ l) second ∙ sym (append_assoc left right c)

pub passes_more : (old mid new : WireState) (source source' source'' : SourceTold) (left right : List ℕ) → Passes old source mid source' left
    → Passes mid source' new source'' right → Passes old source new source'' (left ++ right)
passes_more old mid new source source' source'' left right first second = record {
  gone = gone_more _ _ _ left right first.gone second.gone;
  count = omega (arith, first.count, second.count, length-append left right);
}

-- ---- what was taken

some_later : (Is : List ℕ → Type 0) (old mid new : WireState) (source source' source'' : SourceTold) → Passes old source mid source' [] → PassesSome Is mid source' new source''
    → PassesSome Is old source new source''
some_later Is old mid new source source' source'' first later =
    record { bytes = later.bytes; is = later.is; passes = passes_more old mid new source source' source'' [] later.bytes first later.passes }

-- none passed before
pub takes_later : (found : Got) (old mid new : WireState) (source source' source'' : SourceTold) → Passes old source mid source' [] → Takes found mid source' new source''
    → Takes found old source new source''
takes_later (got.Message message) old mid new source source' source'' first later = some_later _ old mid new source source' source'' first later
takes_later got.TooLarge old mid new source source' source'' first later = some_later _ old mid new source source' source'' first later
takes_later got.End old mid new source source' source'' first later = passes_more old mid new source source' source'' [] [] first later
takes_later (got.Unframed status) old mid new source source' source'' first later = passes_more old mid new source source' source'' [] [] first later
takes_later got.Truncated old mid new source source' source'' first later = passes_more old mid new source source' source'' [] [] first later
takes_later got.StreamLong old mid new source source' source'' first later = passes_more old mid new source source' source'' [] [] first later
takes_later got.Fault old mid new source source' source'' first later = passes_more old mid new source source' source'' [] [] first later
takes_later got.NoMemory old mid new source source' source'' first later = passes_more old mid new source source' source'' [] [] first later

gone_front : (held front rest : List ℕ) (left : Option (List ℕ)) → held ≡ front ++ rest → Consumes (prepend_known held left) (prepend_known rest left) front
gone_front held front rest None whole = tt
gone_front held front rest (Some left) whole = ap (λ (t : List ℕ). t ++ left) whole ∙ append_assoc front rest left

-- the bytes at the front are used up
front_passes : (old new : WireState) (source : SourceTold) (front rest : List ℕ) (used : ℕ) → old.held ≡ front ++ rest → length front ≡ used
    → new.held ≡ drop used old.held → new.taken ≡ old.taken → Passes old source new source front
front_passes old new source front rest used whole long last taken =
    let behind : new.held ≡ rest = last ∙ ap (λ (t : List ℕ). drop used t) whole ∙ drop_at front rest used long in record {
      gone = gone_front old.held front new.held source.left (whole ∙ ap (λ (t : List ℕ). front ++ t) (sym behind));
      count = omega (arith, ap length whole, length-append front rest, ap length behind, taken);
    }

unframed_known : (held : List ℕ) (left : Option (List ℕ)) (status : ℕ) → IsUnframed held status → IfSome left (λ more. IsUnframed (held ++ more) status)
unframed_known held None status unframed = tt
unframed_known held (Some more) status unframed = unframed_stays held more status unframed

tells_unframed : (wire : WireState) (source source' : SourceTold) (status : ℕ) → IsUnframed wire.held status → Tells (got.Unframed status) wire source source'
tells_unframed wire source source' status unframed = (unframed, unframed_known wire.held source'.left status unframed)

-- ---- what was taken from the source

none_left : (left : Option (List ℕ)) → Consumes left left []
none_left None = tt
none_left (Some left) = refl

pub grows_none : (wire : WireState) (source : SourceTold) → Grows wire source wire source []
grows_none wire source = record { held = sym (append-nil wire.held); taken = omega arith; from = none_left source.left }

grows_more : (old mid new : WireState) (source source' source'' : SourceTold) (left right : List ℕ) → Grows old source mid source' left
    → Grows mid source' new source'' right → Grows old source new source'' (left ++ right)
grows_more old mid new source source' source'' left right first second = record {
  held = second.held ∙ ap (λ (t : List ℕ). t ++ right) first.held ∙ append_assoc old.held left right;
  taken = omega (arith, first.taken, second.taken, length-append left right);
  from = gone_more _ _ _ left right first.from second.from;
}

moved : (held : List ℕ) (left left' : Option (List ℕ)) (piece : List ℕ) → Consumes left left' piece → Consumes (prepend_known held left) (prepend_known (held ++ piece) left') []
moved held None left' piece from = tt
moved held (Some left) None piece from = absurd from
moved held (Some left) (Some left') piece from = ap (λ (t : List ℕ). held ++ t) from ∙ sym (append_assoc held piece left')

-- what moves from the source to the wire stays in the stream
grows_passes : (old new : WireState) (source source' : SourceTold) (piece : List ℕ) → Grows old source new source' piece → Passes old source new source' []
grows_passes old new source source' piece grows = record {
  gone = subst (λ (t : List ℕ). Consumes (prepend_known old.held source.left) (prepend_known t source'.left) []) (sym grows.held)
      (moved old.held source.left source'.left piece grows.from);
  count = omega (arith, grows.taken, ap length grows.held, length-append old.held piece);
}

pub front_of_left : (left left' : Option (List ℕ)) (piece : List ℕ) → Consumes left left' piece → IfSome left (λ bytes. IsFront piece bytes)
front_of_left None left' piece from = tt
front_of_left (Some left) None piece from = absurd from
front_of_left (Some left) (Some left') piece from = record { rest = left'; whole = from }

-- some bytes were taken
pub record GrowsBefore (old : WireState) (source : SourceTold) (new : WireState) (source' : SourceTold) : Type 0 where
  pub before : List ℕ
  pub grows : Grows old source new source' before

-- a piece more was taken
pub grows_on : (old mid new : WireState) (source source' source'' : SourceTold) → GrowsBefore old source mid source' → GrowsSome mid source' new source''
    → GrowsBefore old source new source''
grows_on old mid new source source' source'' first second =
    record { before = first.before ++ second.piece; grows = grows_more old mid new source source' source'' first.before second.piece first.grows second.grows }

pub before_passes : (old new : WireState) (source source' : SourceTold) → GrowsBefore old source new source' → Passes old source new source' []
before_passes old new source source' first = grows_passes old new source source' first.before first.grows

-- ---- what was found in what is held

pub message_taken : (bytes : List ℕ) (front : Front) (message : Message) (used : ℕ) (old new : WireState) (source : SourceTold) → bytes ≡ old.held
    → front ≡ fronts.Message message used → Stands bytes front → new ≡ record { held = drop used old.held; taken = old.taken } → Takes (got.Message message) old source new source
message_taken bytes front message used old new source held is stands gone =
    let at : MessageAt old.held message used = subst (λ (f : Front). Stands old.held f) is (subst (λ (b : List ℕ). Stands b front) held stands) in
    record {
      bytes = at.front;
      is = at.is;
      passes = front_passes old new source at.front at.rest used at.whole at.long (ap (λ (w : WireState). w.held) gone) (ap (λ (w : WireState). w.taken) gone);
    }

pub large_taken : (bytes : List ℕ) (front : Front) (used : ℕ) (old new : WireState) (source : SourceTold) → bytes ≡ old.held → front ≡ fronts.TooLarge used
    → Stands bytes front → new ≡ record { held = drop used old.held; taken = old.taken } → Takes got.TooLarge old source new source
large_taken bytes front used old new source held is stands gone =
    let at : TooLargeAt old.held used = subst (λ (f : Front). Stands old.held f) is (subst (λ (b : List ℕ). Stands b front) held stands) in
    record {
      bytes = at.front;
      is = at.is;
      passes = front_passes old new source at.front at.rest used at.whole at.long (ap (λ (w : WireState). w.held) gone) (ap (λ (w : WireState). w.taken) gone);
    }

pub front_dropped : (bytes : List ℕ) (used : ℕ) → used ≤ length bytes → take (length bytes - used) (drop used bytes ++ take used bytes) ≡ drop used bytes
front_dropped bytes used within = take_at (drop used bytes) (take used bytes) (length bytes - used) (omega (arith, length-drop used bytes, within))

pub unframed_told : (bytes : List ℕ) (front : Front) (status : ℕ) (wire : WireState) (source source' : SourceTold) → bytes ≡ wire.held → front ≡ fronts.Unframed status
    → Stands bytes front → Tells (got.Unframed status) wire source source'
unframed_told bytes front status wire source source' held is stands =
    tells_unframed wire source source' status (subst (λ (f : Front). Stands wire.held f) is (subst (λ (b : List ℕ). Stands b front) held stands))

-- ---- what is awaited

pub awaits_on : (old new : WireState) (source source' : SourceTold) (needs : ℕ) → GrowsSome old source new source' → Awaits old.held needs → Awaits new.held needs
awaits_on old new source source' needs more awaits later short =
    let same : new.held ++ later ≡ old.held ++ (more.piece ++ later) = ap (λ (t : List ℕ). t ++ later) more.grows.held ∙ append_assoc old.held more.piece later in
    subst (λ (t : List ℕ). IsUnfinished t) (sym same) (awaits (more.piece ++ later) (omega (arith, short, ap length same)))

pub awaited : (held : List ℕ) (needs : ℕ) → Awaits held needs → length held < needs → IsUnfinished held
awaited held needs awaits short =
    subst (λ (t : List ℕ). IsUnfinished t) (append-nil held) (awaits [] (omega (arith, short, ap length (append-nil held))))
