-- Bytes that pass a stream.
use Rattle.std.proofs.Common.{◌≡◌, ℕ, ◌+◌, ◌-◌, drop, List, [], ◌++◌, Option, Some, None, refl, sym, ap, ◌∙◌, append_assoc, append-nil, ◌⊎◌, inl, inr, length, length-append, arith}
use Rattle.std.specs.Io.KnownBytes.{prepend_known, Consumes}
use Rattle.plant.specs.Stream.{SourceTold}
use Rattle.std.proofs.lemmas.List.{drop_at}
use Rattle.gate_entries.specs.declared.command.Command.{Command}
use Rattle.wire_front.specs.declared.streaming.Taken.{Taken}
use Rattle.wire_front.specs.declared.streaming.Taken.TheVariants as takes
use Rattle.wire_front.specs.Message.{BeginsWith, NeverHasMessage}
use Rattle.wire_front.specs.Stream.{StreamState, Passes, TakesMessage, Takes, TakesAhead}
use Rattle.wire_front.proofs.MessageLemmas.{some_message, one_message}

none_gone : (held : List ℕ) (left : Option (List ℕ)) → Consumes (prepend_known held left) (prepend_known held left) []
none_gone held None = tt
none_gone held (Some left) = refl

pub passes_none : (stream : StreamState) (source : SourceTold) → Passes stream source stream source []
passes_none stream source = record { gone = none_gone stream.held source.left; count = omega arith }

gone_more : (a b c : Option (List ℕ)) (left right : List ℕ) → Consumes a b left → Consumes b c right → Consumes a c (left ++ right)
gone_more None b c left right first second = tt
gone_more (Some a) None c left right first second = absurd first
gone_more (Some a) (Some b) None left right first second = absurd second
gone_more (Some a) (Some b) (Some c) left right first second = first ∙ ap (λ (l : List ℕ). left ++ l) second ∙ sym (append_assoc left right c)

pub passes_more : (old mid new : StreamState) (source source' source'' : SourceTold) (left right : List ℕ) → Passes old source mid source' left
    → Passes mid source' new source'' right → Passes old source new source'' (left ++ right)
passes_more old mid new source source' source'' left right first second = record {
  gone = gone_more _ _ _ left right first.gone second.gone;
  count = omega (arith, first.count, second.count, length-append left right);
}

-- ---- what was taken

-- none passed before
pub takes_later : (taken : Taken) (old mid new : StreamState) (source source' source'' : SourceTold) → Passes old source mid source' [] → Takes taken mid source' new source''
    → Takes taken old source new source''
takes_later (takes.Message command) old mid new source source' source'' first later = record {
  bytes = later.bytes;
  asks = later.asks;
  some = later.some;
  passes = passes_more old mid new source source' source'' [] later.bytes first later.passes;
}
takes_later takes.End old mid new source source' source'' first later = passes_more old mid new source source' source'' [] [] first later
takes_later takes.NotBuilt old mid new source source' source'' first later = passes_more old mid new source source' source'' [] [] first later
takes_later takes.Fault old mid new source source' source'' first later = passes_more old mid new source source' source'' [] [] first later
takes_later takes.StreamLong old mid new source source' source'' first later = passes_more old mid new source source' source'' [] [] first later
takes_later takes.NoMemory old mid new source source' source'' first later = passes_more old mid new source source' source'' [] [] first later

gone_front : (held message rest : List ℕ) (left : Option (List ℕ)) → held ≡ message ++ rest → Consumes (prepend_known held left) (prepend_known rest left) message
gone_front held message rest None whole = tt
gone_front held message rest (Some left) whole = ap (λ (t : List ℕ). t ++ left) whole ∙ append_assoc message rest left

-- a message is used up
pub takes_message : (old new : StreamState) (source : SourceTold) (command : Command) (left : ℕ) → BeginsWith old.held command left
    → new.held ≡ drop (length old.held - left) old.held → new.taken ≡ old.taken → TakesMessage command old source new source
takes_message old new source command left begins last taken =
    let size : length old.held ≡ length begins.message + length begins.rest = ap length begins.whole ∙ length-append begins.message begins.rest in
    let front : length old.held - left ≡ length begins.message = omega (arith, size, begins.behind) in
    let rest : new.held ≡ begins.rest = last ∙ ap (λ (t : List ℕ). drop (length old.held - left) t) begins.whole
    ∙ drop_at begins.message begins.rest (length old.held - left) (sym front) in
    record {
      bytes = begins.message;
      asks = begins.asks;
      some = some_message begins.message command begins.asks;
      passes = record {
        gone = gone_front old.held begins.message new.held source.left (begins.whole ∙ ap (λ (t : List ℕ). begins.message ++ t) (sym rest));
        count = omega (arith, size, ap length rest, taken);
      };
    }

-- ---- what is held is taken first

pub ahead_of : (found : Command) (left : ℕ) (taken : Taken) (stream : StreamState) (source : SourceTold) → BeginsWith stream.held found left
    → (taken ≡ takes.Message found) ⊎ (taken ≡ takes.NoMemory) → TakesAhead taken stream source source
ahead_of found left taken stream source begins is = λ command other also.
    let same = one_message found command begins.message also.message begins.rest also.rest begins.asks also.asks (sym begins.whole ∙ also.whole) in (
      refl,
      elim is [
        | inl message ↦ inl (message ∙ ap (λ (c : Command). takes.Message c) same.0)
        | inr memory ↦ inr memory
      ],
    )

pub never_ahead : (taken : Taken) (stream : StreamState) (source : SourceTold) → NeverHasMessage stream.held → TakesAhead taken stream source source
never_ahead taken stream source never = λ command left begins.
    absurd (never [] begins.message begins.rest command begins.asks (append-nil stream.held ∙ begins.whole))
