-- A session: messages that are taken, asked and answered, one after another, and how it ends.
use Rattle.std.specs.Prelude.{◌≡◌, ℕ, ◌≤◌, ◌⊎◌, List, [], ◌∷◌, ◌++◌, length, codes, false, Option, Some, None, option_map, Result, Ok, Err, IfSome}
use Rattle.std.specs.List.{flat_map}
use Rattle.std.specs.Io.KnownBytes.{Appends, IsAtEnd}
use Rattle.plant.specs.Causes.{Rose}
use Rattle.plant.specs.Plant.{PlantTold}
use Rattle.plant.specs.Clock.{ClockTold}
use Rattle.plant.specs.Entropy.{EntropyTold}
use Rattle.plant.specs.Stream.{SourceTold, SinkTold, AppendsFront}
use Rattle.gate_settings.specs.declared.row.CallerRow.{CallerRow}
use Rattle.gate_settings.specs.Callers.{with_token}
use Rattle.gate_entries.specs.declared.caller.Caller.{Caller}
use Rattle.gate_machine.specs.Move.{Held}
use Rattle.gate_machine.specs.Step.{State, Item, Handles, Steps}
use Rattle.gate_machine.specs.Step.Item.{Exchange, Refusal}
use Rattle.gate_engine.specs.Engine.{state_of}
use Rattle.wire_front.specs.Message.{IsMessageOf, HasNoMessage}
use Rattle.wire_front.specs.Reply.{text_of}
use Rattle.wire_front.specs.Stream.{StreamState, Passes, most_taken}
use Rattle.gate_server.specs.declared.status.Status.{Status}
use Rattle.gate_server.specs.declared.status.Status.TheVariants as statuses

-- the caller of a row
abbrev pub caller_of : CallerRow → Caller
caller_of row = record { id = row.id; role = row.role }

-- the caller with the token that the messages of both forms bear
abbrev pub caller_in : List CallerRow → Option Caller
caller_in rows = option_map caller_of (with_token (codes "acme-token") rows)

-- messages, one after another
abbrev pub joined : List (List ℕ) → List ℕ
joined messages = flat_map (λ message. message) messages

-- an item's text: of its reply, or of the refusal
abbrev pub item_text : Item → List ℕ
item_text (Exchange asked) = text_of asked.reply
item_text (Refusal text) = text

abbrev pub texts_of : List Item → List ℕ
texts_of items = flat_map item_text items

-- the gate, the bytes that are held, the source and the sink
pub record Talk : Type 0 where
  pub state : State
  pub stream : StreamState
  pub source : SourceTold
  pub sink : SinkTold

abbrev pub talk_of : Held → PlantTold → ClockTold → EntropyTold → StreamState → SourceTold → SinkTold → Talk
talk_of held plant clock entropy stream source sink =
    record { state = state_of held plant clock entropy; stream = stream; source = source; sink = sink }

-- nothing was taken
abbrev pub begun : StreamState
begun = record { held = []; taken = 0 }

-- no message was taken, and nothing was asked
pub record Rests (old new : Talk) : Type 0 where
  pub state : new.state ≡ old.state
  pub passes : Passes old.stream old.source new.stream new.source []
  pub sink : new.sink ≡ old.sink

-- bytes that aren't the end and begin with no message
abbrev pub StandsNext : Talk → Type 0
StandsNext talk = IfSome talk.source.left (λ more. HasNoMessage (talk.stream.held ++ more) × (1 ≤ length (talk.stream.held ++ more)))

-- the callers by the settings in force
module _ (rows : List CallerRow) where
  -- what a message makes: its command is asked by the caller that has its token. Nothing is refused so far.
  abbrev pub Makes : List ℕ → Item → Type 0
  Makes message (Exchange asked) = IsMessageOf message asked.command × (caller_in rows ≡ Some asked.caller)
  Makes message (Refusal text) = ⊥

  -- each message makes its item
  abbrev pub Make : List (List ℕ) → List Item → Type 0
  Make [] [] = Unit {0}
  Make [] (item ∷ items) = ⊥
  Make (message ∷ messages) [] = ⊥
  Make (message ∷ messages) (item ∷ items) = Makes message item × Make messages items

  -- one message was taken, and what it makes was handled
  pub record Exchanges (old new : Talk) (item : Item) : Type 0 where
    pub message : List ℕ
    pub makes : Makes message item
    pub some : 1 ≤ length message
    pub passes : Passes old.stream old.source new.stream new.source message
    pub handles : Handles old.state item new.state

  -- its text was put
  pub record Answers (old new : Talk) : Type 0 where
    pub item : Item
    pub exchanges : Exchanges old new item
    pub puts : Appends old.sink.held new.sink.held (item_text item)

  -- its text, or an end of it, is lost
  pub record BreaksOff (old new : Talk) : Type 0 where
    pub item : Item
    pub exchanges : Exchanges old new item
    pub puts : AppendsFront old.sink.held new.sink.held (item_text item)

  -- how a session ends
  abbrev pub Ends : Status → Talk → Talk → Type 0
  Ends statuses.Ok old new = Rests old new × (new.stream.held ≡ []) × IsAtEnd new.source.left
  Ends statuses.NotBuilt old new = Rests old new × (StandsNext new ⊎ (caller_in rows ≡ None))
  Ends (statuses.ReadFault settings) old new = (settings ≡ false) × Rests old new × HasNoMessage new.stream.held × Rose old.source.faults new.source.faults
  Ends statuses.StreamLong old new = Rests old new × HasNoMessage new.stream.held × (new.stream.taken ≡ most_taken)
  Ends statuses.WriteFault old new = BreaksOff old new × Rose old.sink.faults new.sink.faults
  Ends statuses.NoMemory old new = Rests old new ⊎ BreaksOff old new
  Ends statuses.Usage old new = ⊥
  Ends (statuses.SettingsBad rule item) old new = ⊥
  Ends statuses.Full old new = ⊥
  Ends statuses.NotBegun old new = ⊥
  Ends (statuses.NotEmpty count) old new = ⊥
  Ends (statuses.JournalBad at) old new = ⊥
  Ends statuses.DiskFault old new = ⊥
  Ends statuses.ClockFault old new = ⊥
  Ends (statuses.ClockRange reading) old new = ⊥

  -- one turn: a message is answered, or the session ends
  abbrev pub Turns : Result (Unit {0}) Status → Talk → Talk → Type 0
  Turns (Ok done) old new = Answers old new
  Turns (Err status) old new = Ends status old new

  -- messages whose items were handled and answered, in order
  pub record Talked (old new : Talk) : Type 0 where
    pub messages : List (List ℕ)
    pub items : List Item
    pub make : Make messages items
    pub steps : Steps old.state items new.state
    pub passes : Passes old.stream old.source new.stream new.source (joined messages)
    pub puts : Appends old.sink.held new.sink.held (texts_of items)
    pub read_later : old.source.faults ≤ new.source.faults
    pub put_later : old.sink.faults ≤ new.sink.faults

  -- the messages, and how they ended; the bytes that are held at the end are no longer told
  pub record Ended (status : Status) (old : Talk) (held : Held) (plant : PlantTold) (clock : ClockTold) (entropy : EntropyTold) (source : SourceTold) (sink : SinkTold) : Type 0 where
    pub last : Talk
    pub talked : Talked old last
    pub stream : StreamState
    pub ends : Ends status last (talk_of held plant clock entropy stream source sink)

-- how a reply is put: whole, or a front of it
abbrev pub PutsReply : Result (Unit {0}) Status → SinkTold → SinkTold → List ℕ → Type 0
PutsReply (Ok done) old new text = Appends old.held new.held text
PutsReply (Err statuses.WriteFault) old new text = AppendsFront old.held new.held text × Rose old.faults new.faults
PutsReply (Err statuses.NoMemory) old new text = AppendsFront old.held new.held text
PutsReply (Err statuses.Ok) old new text = ⊥
PutsReply (Err statuses.NotBuilt) old new text = ⊥
PutsReply (Err (statuses.ReadFault settings)) old new text = ⊥
PutsReply (Err statuses.StreamLong) old new text = ⊥
PutsReply (Err statuses.Usage) old new text = ⊥
PutsReply (Err (statuses.SettingsBad rule item)) old new text = ⊥
PutsReply (Err statuses.Full) old new text = ⊥
PutsReply (Err statuses.NotBegun) old new text = ⊥
PutsReply (Err (statuses.NotEmpty count)) old new text = ⊥
PutsReply (Err (statuses.JournalBad at)) old new text = ⊥
PutsReply (Err statuses.DiskFault) old new text = ⊥
PutsReply (Err statuses.ClockFault) old new text = ⊥
PutsReply (Err (statuses.ClockRange reading)) old new text = ⊥
