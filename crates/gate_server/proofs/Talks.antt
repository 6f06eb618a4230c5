-- Exchanges one after another.
use Rattle.std.proofs.Common.{◌≡◌, ℕ, ◌≤◌, List, [], ◌∷◌, ◌++◌, Option, Some, None, Result, Ok, Err, inl, inr, refl, sym, ap, subst, ◌∙◌, append_assoc, append-nil, length, arith}
use Rattle.std.specs.Prelude.{codes, option_map, IfSome}
use Rattle.std.specs.List.{flat_map}
use Rattle.std.specs.Io.KnownBytes.{Appends}
use Rattle.std.proofs.lemmas.Grind.{flat_map-append}
use Rattle.plant.specs.Plant.{PlantTold}
use Rattle.plant.specs.Clock.{ClockTold}
use Rattle.plant.specs.Entropy.{EntropyTold}
use Rattle.plant.specs.Stream.{SourceTold, SinkTold}
use Rattle.gate_settings.specs.declared.row.CallerRow.{CallerRow}
use Rattle.gate_settings.specs.Callers.{with_token, IsShortRow}
use Rattle.gate_entries.specs.Command.{IsCaller}
use Rattle.gate_machine.specs.Move.{Held}
use Rattle.gate_machine.specs.Step.{State, Item, Handles, Steps}
use Rattle.wire_front.specs.Stream.{StreamState, Passes}
use Rattle.gate_server.specs.declared.status.Status.{Status}
use Rattle.gate_server.specs.declared.status.Status.TheVariants as statuses
use Rattle.gate_server.specs.Session.{Talk, talk_of, begun, Rests, Ends, Ended, Exchanges, Answers, Turns, PutsReply, Talked, Makes, Make, caller_of, caller_in, joined, item_text, texts_of}

-- the caller of a row with a short id
short_of : (found : Option CallerRow) → ((row : CallerRow) → found ≡ Some row → length row.id ≤ 64) → IfSome (option_map caller_of found) IsCaller
short_of None short = tt
short_of (Some row) short = short row refl

pub caller_is_short : (rows : List CallerRow) → ((row : CallerRow) → with_token (codes "acme-token") rows ≡ Some row → IsShortRow row)
    → IfSome (caller_in rows) IsCaller
caller_is_short rows short = short_of (with_token (codes "acme-token") rows) (λ row found. (short row found).id_short)

-- what a message makes was handled, and its text was put or broken off
pub turns_put : (rows : List CallerRow) (outcome : Result (Unit {0}) Status) (old new : Talk) (item : Item) → Exchanges rows old new item
    → PutsReply outcome old.sink new.sink (item_text item) → Turns rows outcome old new
turns_put rows (Ok done) old new item exchanges puts = record { item = item; exchanges = exchanges; puts = puts }
turns_put rows (Err statuses.WriteFault) old new item exchanges puts = (record { item = item; exchanges = exchanges; puts = puts.0 }, puts.1)
turns_put rows (Err statuses.NoMemory) old new item exchanges puts = inr (record { item = item; exchanges = exchanges; puts = puts })
turns_put rows (Err status) old new item exchanges puts = absurd puts

make_more : (rows : List CallerRow) (messages : List (List ℕ)) (items : List Item) (message : List ℕ) (item : Item) → Make rows messages items → Makes rows message item
    → Make rows (messages ++ message ∷ []) (items ++ item ∷ [])
make_more rows [] [] message item make is = (is, tt)
make_more rows [] (first ∷ items) message item make is = absurd make
make_more rows (first ∷ messages) [] message item make is = absurd make
make_more rows (first ∷ messages) (next ∷ items) message item make is = (make.0, make_more rows messages items message item make.1 is)

one_more : {A : Type 0} (spell : A → List ℕ) (items : List A) (item : A) → flat_map spell items ++ spell item ≡ flat_map spell (items ++ item ∷ [])
one_more spell items item = sym (flat_map-append spell items (item ∷ []) ∙ ap (λ (l : List ℕ). flat_map spell items ++ l) (append-nil (spell item)))

puts_none : (held : Option (List ℕ)) → Appends held held []
puts_none None = tt
puts_none (Some held) = sym (append-nil held)

puts_more : (a b c : Option (List ℕ)) (left right : List ℕ) → Appends a b left → Appends b c right → Appends a c (left ++ right)
puts_more None b c left right first second = tt
puts_more (Some a) None c left right first second = absurd first
puts_more (Some a) (Some b) None left right first second = absurd second
puts_more (Some a) (Some b) (Some c) left right first second = second ∙ ap (λ (l : List ℕ). l ++ right) first ∙ append_assoc a left right

module _ (rows : List CallerRow) (none : (stream : StreamState) (source : SourceTold) → Passes stream source stream source [])
    (more : (old mid new : StreamState) (source source' source'' : SourceTold) (left right : List ℕ) → Passes old source mid source' left
    → Passes mid source' new source'' right → Passes old source new source'' (left ++ right))
    (steps_more : (old mid new : State) (items : List Item) (item : Item) → Steps old items mid → Handles mid item new → Steps old (items ++ item ∷ []) new) where
  pub talked_none : (talk : Talk) → Talked rows talk talk
  talked_none talk = record {
    messages = [];
    items = [];
    make = tt;
    steps = refl;
    passes = none talk.stream talk.source;
    puts = puts_none talk.sink.held;
    read_later = omega arith;
    put_later = omega arith;
  }

  rests_still : (talk : Talk) → Rests talk talk
  rests_still talk = record { state = refl; passes = none talk.stream talk.source; sink = refl }

  -- a session ends before a message was taken
  ended_none : (status : Status) (held : Held) (plant : PlantTold) (clock : ClockTold) (entropy : EntropyTold) (source : SourceTold) (sink : SinkTold)
      → Ends rows status (talk_of held plant clock entropy begun source sink) (talk_of held plant clock entropy begun source sink)
      → Ended rows status (talk_of held plant clock entropy begun source sink) held plant clock entropy source sink
  ended_none status held plant clock entropy source sink ends = record {
    last = talk_of held plant clock entropy begun source sink;
    talked = talked_none (talk_of held plant clock entropy begun source sink);
    stream = begun;
    ends = ends;
  }

  pub ended_unknown : (held : Held) (plant : PlantTold) (clock : ClockTold) (entropy : EntropyTold) (source : SourceTold) (sink : SinkTold) → caller_in rows ≡ None
      → Ended rows statuses.NotBuilt (talk_of held plant clock entropy begun source sink) held plant clock entropy source sink
  ended_unknown held plant clock entropy source sink unknown =
      ended_none statuses.NotBuilt held plant clock entropy source sink (rests_still (talk_of held plant clock entropy begun source sink), inr unknown)

  pub ended_full : (held : Held) (plant : PlantTold) (clock : ClockTold) (entropy : EntropyTold) (source : SourceTold) (sink : SinkTold)
      → Ended rows statuses.NoMemory (talk_of held plant clock entropy begun source sink) held plant clock entropy source sink
  ended_full held plant clock entropy source sink =
      ended_none statuses.NoMemory held plant clock entropy source sink (inl (rests_still (talk_of held plant clock entropy begun source sink)))

  pub talked_more : (old mid new : Talk) → Talked rows old mid → Answers rows mid new → mid.source.faults ≤ new.source.faults → mid.sink.faults ≤ new.sink.faults → Talked rows old new
  talked_more old mid new talked answers read put = record {
    messages = talked.messages ++ answers.exchanges.message ∷ [];
    items = talked.items ++ answers.item ∷ [];
    make = make_more rows talked.messages talked.items answers.exchanges.message answers.item talked.make answers.exchanges.makes;
    steps = steps_more old.state mid.state new.state talked.items answers.item talked.steps answers.exchanges.handles;
    passes = subst (λ (b : List ℕ). Passes old.stream old.source new.stream new.source b) (one_more (λ (message : List ℕ). message) talked.messages answers.exchanges.message)
        (more old.stream mid.stream new.stream old.source mid.source new.source (joined talked.messages) answers.exchanges.message talked.passes answers.exchanges.passes);
    puts = subst (λ (b : List ℕ). Appends old.sink.held new.sink.held b) (one_more item_text talked.items answers.item)
        (puts_more old.sink.held mid.sink.held new.sink.held (texts_of talked.items) (item_text answers.item) talked.puts answers.puts);
    read_later = omega (arith, talked.read_later, read);
    put_later = omega (arith, talked.put_later, put);
  }
