-- What a run does, by its words.
use Rattle.std.specs.Prelude.{◌≡◌, ◌≢◌, ℕ, ◌≤◌, ◌⊎◌, List, [], ◌∷◌, ◌++◌, length, codes, Some, None}
use Rattle.std.specs.Option.{ForSome, option_map}
use Rattle.plant.specs.Causes.{Rose}
use Rattle.plant.specs.Plant.{PlantTold}
use Rattle.plant.specs.Stops.{Stops}
use Rattle.plant.specs.Joining.{Stays}
use Rattle.plant.specs.Clock.{ClockTold, Reads}
use Rattle.plant.specs.Entropy.{EntropyTold}
use Rattle.plant.specs.Stream.{SourceTold, SinkTold}
use Rattle.journal_core.specs.Journal.{IsJournal, begun_of}
use Rattle.gate_entries.specs.Spelling.{entry_bytes}
use Rattle.gate_entries.specs.Command.{settings_entry}
use Rattle.gate_entries.specs.declared.entry.Entry.{Entry}
use Rattle.gate_settings.specs.declared.settings.Settings.{Settings}
use Rattle.gate_settings.specs.Meaning.{settings_of}
use Rattle.gate_machine.specs.Commands.Settings.{AreInForce}
use Rattle.gate_machine.specs.History.{payloads_of, Legal}
use Rattle.gate_machine.specs.Renewal.{first_history}
use Rattle.gate_machine.specs.Answer.{IsInRange, IsOutOfRange}
use Rattle.gate_machine.specs.Sends.{HasOneBodyEach}
use Rattle.gate_machine.specs.Serials.{HasOneOrderEach}
use Rattle.gate_machine.specs.Move.{Held, Holds, IsSound, Settles, Extends}
use Rattle.gate_machine.specs.Step.{Item, Steps, Counted, IsRecorded}
use Rattle.gate_engine.specs.declared.fault.StartFault.{StartFault}
use Rattle.gate_engine.specs.declared.fault.StartFault.TheVariants as starts
use Rattle.gate_engine.specs.Engine.{held_as, IsOutside, state_of}
use Rattle.gate_engine.specs.Start.{KeepsDisk, Renewed, RefusesStart}
use Rattle.gate_engine.specs.Kept.{Stands, IsSentOf, Kept}
use Rattle.gate_server.specs.Conf.{Accepts, RefusesSettings}
use Rattle.gate_server.specs.declared.running.Word.{Word}
use Rattle.gate_server.specs.declared.running.Word.TheVariants as asked
use Rattle.gate_server.specs.declared.status.Status.{Status}
use Rattle.gate_server.specs.declared.status.Status.TheVariants as statuses
use Rattle.gate_server.specs.Session.{talk_of, begun, Ended}

-- the one word that is known
abbrev pub IsWord : List (List ℕ) → Word → Type 0
IsWord words asked.Begin = words ≡ codes "begin" ∷ []
IsWord words asked.Session = words ≡ codes "session" ∷ []
IsWord words asked.Other = (words ≢ codes "begin" ∷ []) × (words ≢ codes "session" ∷ [])

-- the outside, but for the settings
pub record Outside : Type 1 where
  pub plant : PlantTold
  pub stops : Stops
  pub clock : ClockTold
  pub entropy : EntropyTold
  pub source : SourceTold
  pub sink : SinkTold

abbrev pub outside_of : PlantTold → Stops → ClockTold → EntropyTold → SourceTold → SinkTold → Outside
outside_of plant stops clock entropy source sink =
    record { plant = plant; stops = stops; clock = clock; entropy = entropy; source = source; sink = sink }

-- nothing of it changed, and a stop leaves what it could leave before
pub record Untouched (old new : Outside) : Type 0 where
  pub plant : new.plant ≡ old.plant
  pub stays : Stays old.stops new.stops
  pub clock : new.clock ≡ old.clock
  pub entropy : new.entropy ≡ old.entropy
  pub source : new.source ≡ old.source
  pub sink : new.sink ≡ old.sink

-- the status that a refused start ends with
abbrev pub IsStartStatus : StartFault → Status → Type 0
IsStartStatus starts.Disk status = status ≡ statuses.DiskFault
IsStartStatus starts.NotBegun status = status ≡ statuses.NotBegun
IsStartStatus (starts.JournalBad at) status = status ≡ statuses.JournalBad at
IsStartStatus starts.Clock status = status ≡ statuses.ClockFault
IsStartStatus (starts.ClockRange reading) status = status ≡ statuses.ClockRange reading
IsStartStatus starts.Full status = status ≡ statuses.Full
IsStartStatus starts.NoMemory status = status ≡ statuses.NoMemory

-- the engine didn't start under these settings, for a reason that lies in the bytes, in the disk, in the clock, in the journal's room or
-- in memory; nothing was taken or sent
pub record Refused (settings : List ℕ) (old new : Outside) (status : Status) : Type 0 where
  pub fault : StartFault
  pub told : IsStartStatus fault status
  pub refused : RefusesStart settings old.plant.disk.bytes old.clock new.clock fault
  -- over what a gate left nothing is said against the journal
  pub good : ForSome old.plant.disk.bytes (λ bytes. (found : Held) → IsSound found → Stands found old.stops → IsOutside fault)
  pub cause : fault ≡ starts.Disk → Rose old.plant.disk.faults new.plant.disk.faults
  -- but for a fault of the disk it stays as it was
  pub same : fault ≢ starts.Disk → KeepsDisk old.plant new.plant old.stops new.stops
  pub signer : new.plant.signer ≡ old.plant.signer
  pub entropy : new.entropy ≡ old.entropy
  pub source : new.source ≡ old.source
  pub sink : new.sink ≡ old.sink

-- the settings were in force in the history that was found: nothing was written, and the clock wasn't read
pub record GoesOn (settings : List ℕ) (found : List Entry) (old : Outside) (mounted : PlantTold) (ticked : ClockTold) (before : Held) : Type 0 where
  pub same : AreInForce settings found
  pub unread : ticked ≡ old.clock
  pub held : Holds before found
  pub unwritten : mounted.disk.bytes ≡ old.plant.disk.bytes

-- what the messages begin with: the legal history whose journal the disk held, or, where other settings were in force, this and the
-- entry of these behind it, at the reading that the clock gave
pub record Resumed (settings : List ℕ) (old : Outside) (mounted : PlantTold) (ticked : ClockTold) (before : Held) : Type 0 where
  pub found : List Entry
  pub legal : Legal found
  pub journal : ForSome old.plant.disk.bytes (λ bytes. IsJournal (payloads_of found) bytes)
  -- over what a gate left it is that gate's history, or this and what was loose
  pub settles : ForSome old.plant.disk.bytes (λ bytes. (left : Held) → IsSound left → Stands left old.stops → Settles left found)
  pub starts : GoesOn settings found old mounted ticked before ⊎ Renewed settings found old.clock ticked before

-- the disk held the journal of a legal history, to which an entry of the settings was added where others were in force; messages were
-- taken, asked and answered under them; recovery then finds the history that their steps lead to, or this and the entry whose
-- commit failed
pub record Session (settings : List ℕ) (old new : Outside) (status : Status) : Type 0 where
  pub says : Settings
  pub read : settings_of settings ≡ Some says
  -- the history that the messages begin with
  pub before : Held
  pub settled : before.loose ≡ None
  pub legal : Legal before.history
  pub in_force : AreInForce settings before.history
  pub mounted : PlantTold
  pub ticked : ClockTold
  pub resumed : Resumed settings old mounted ticked before
  pub later : old.plant.disk.faults ≤ mounted.disk.faults
  pub signer : mounted.signer ≡ old.plant.signer
  pub after : Held
  pub ended : Ended says.callers status (talk_of before mounted ticked old.entropy begun old.source old.sink) after new.plant new.clock new.entropy new.source new.sink
  -- the last item, where its text was not put whole
  pub broken : List Item
  pub one_at_most : length broken ≤ 1
  -- all items, one after another, lead from the first history to the last
  pub steps : Steps (state_of before mounted ticked old.entropy) (ended.talked.items ++ broken) (state_of after new.plant new.clock new.entropy)
  pub legal_after : Legal after.history
  pub extends : Extends before.history after.history
  -- a fault of an object is told at most as many times as its count rose
  pub counted : Counted (state_of before mounted ticked old.entropy) (ended.talked.items ++ broken) (state_of after new.plant new.clock new.entropy)
  -- each body that the signer was sent has an entry of its own, in order, where it had before
  pub recorded : IsRecorded old.plant.signer before.history → IsRecorded new.plant.signer after.history
  -- all bodies that were sent for an order are the same
  pub one_body : HasOneBodyEach after.history
  -- two bodies with the same serial number were sent for the same order
  pub one_order : HasOneOrderEach after.history
  pub sound : IsSound after
  -- whatever a stop then leaves
  pub stands : Stands after new.stops
  pub recorded_stops : (found : Held) → IsSound found → Kept found old.stops → IsSentOf after.history new.stops
  pub settled_after : (Rose old.plant.disk.faults new.plant.disk.faults → ⊥) → after.loose ≡ None

abbrev pub HoldsSession : List ℕ → Outside → Outside → Status → Type 0
HoldsSession settings old new status = Refused settings old new status ⊎ Session settings old new status

-- a session under the settings that were read
pub record SettledSession (conf : SourceTold) (old new : Outside) (status : Status) : Type 0 where
  pub settings : List ℕ
  pub accepts : Accepts conf settings
  pub holds : HoldsSession settings old new status

abbrev pub RunsSession : SourceTold → SourceTold → Outside → Outside → Status → Type 0
RunsSession conf conf' old new status = (RefusesSettings conf conf' status × Untouched old new) ⊎ SettledSession conf old new status

-- a journal was begun on an empty disk: it holds these settings, at this moment
pub record Began (settings : List ℕ) (reading : ℕ) (plant plant' : PlantTold) (stops' : Stops) : Type 0 where
  pub empty : ForSome plant.disk.bytes (λ bytes. bytes ≡ [])
  pub bytes : plant'.disk.bytes ≡ option_map (λ _. begun_of (entry_bytes (settings_entry 1 (record { 0 = reading }) settings))) plant.disk.bytes
  pub legal : Legal (first_history reading settings)
  -- where the signer was sent nothing, recovery then finds the history of these settings, whatever a stop leaves
  pub kept : plant.signer.sent ≡ Some [] → Kept (held_as (first_history reading settings) None) stops'

-- the disk isn't empty, and stays as it was
pub record Occupied (count : ℕ) (plant plant' : PlantTold) (stops stops' : Stops) : Type 0 where
  pub some : 1 ≤ count
  pub size : ForSome plant.disk.bytes (λ bytes. length bytes ≡ count)
  pub keeps : ForSome plant.disk.bytes (λ bytes. KeepsDisk plant plant' stops stops')

-- the disk failed. One that isn't empty stays as it was
pub record FailsToBegin (plant plant' : PlantTold) (stops stops' : Stops) : Type 0 where
  pub cause : Rose plant.disk.faults plant'.disk.faults
  pub keeps : ForSome plant.disk.bytes (λ bytes. bytes ≢ [] → KeepsDisk plant plant' stops stops')

abbrev pub Begins : List ℕ → ℕ → PlantTold → PlantTold → Stops → Stops → Status → Type 0
Begins settings reading plant plant' stops stops' statuses.Ok = Began settings reading plant plant' stops'
Begins settings reading plant plant' stops stops' (statuses.NotEmpty count) = Occupied count plant plant' stops stops'
Begins settings reading plant plant' stops stops' statuses.DiskFault = FailsToBegin plant plant' stops stops'
Begins settings reading plant plant' stops stops' statuses.NoMemory = KeepsDisk plant plant' stops stops'
Begins settings reading plant plant' stops stops' statuses.NotBuilt = ⊥
Begins settings reading plant plant' stops stops' (statuses.ReadFault of) = ⊥
Begins settings reading plant plant' stops stops' statuses.WriteFault = ⊥
Begins settings reading plant plant' stops stops' statuses.StreamLong = ⊥
Begins settings reading plant plant' stops stops' statuses.NotBegun = ⊥
Begins settings reading plant plant' stops stops' (statuses.JournalBad at) = ⊥
Begins settings reading plant plant' stops stops' statuses.Usage = ⊥
Begins settings reading plant plant' stops stops' (statuses.SettingsBad rule item) = ⊥
Begins settings reading plant plant' stops stops' statuses.Full = ⊥
Begins settings reading plant plant' stops stops' statuses.ClockFault = ⊥
Begins settings reading plant plant' stops stops' (statuses.ClockRange given) = ⊥

-- a journal is begun at the reading that the clock gave
pub record BeginsRead (settings : List ℕ) (plant plant' : PlantTold) (stops stops' : Stops) (clock clock' : ClockTold) (status : Status) : Type 0 where
  pub reading : ℕ
  pub reads : Reads clock clock' (Some reading)
  pub does : ((status ≡ statuses.ClockRange reading) × IsOutOfRange reading × (plant' ≡ plant) × Stays stops stops')
      ⊎ (IsInRange reading × Begins settings reading plant plant' stops stops' status)

abbrev pub BeginsJournal : List ℕ → PlantTold → PlantTold → Stops → Stops → ClockTold → ClockTold → Status → Type 0
BeginsJournal settings plant plant' stops stops' clock clock' status =
    ((status ≡ statuses.ClockFault) × Reads clock clock' None × (plant' ≡ plant) × Stays stops stops')
    ⊎ BeginsRead settings plant plant' stops stops' clock clock' status

-- a journal is begun with the settings that were read
pub record SettledBegin (conf : SourceTold) (plant plant' : PlantTold) (stops stops' : Stops) (clock clock' : ClockTold) (status : Status) : Type 0 where
  pub settings : List ℕ
  pub accepts : Accepts conf settings
  pub begins : BeginsJournal settings plant plant' stops stops' clock clock' status

pub record RunsBegin (conf conf' : SourceTold) (old new : Outside) (status : Status) : Type 0 where
  pub entropy : new.entropy ≡ old.entropy
  pub source : new.source ≡ old.source
  pub sink : new.sink ≡ old.sink
  pub signer : new.plant.signer ≡ old.plant.signer
  pub does : (RefusesSettings conf conf' status × (new.plant ≡ old.plant) × Stays old.stops new.stops × (new.clock ≡ old.clock))
      ⊎ SettledBegin conf old.plant new.plant old.stops new.stops old.clock new.clock status

-- what a run does
abbrev pub Runs : Word → SourceTold → SourceTold → Outside → Outside → Status → Type 0
Runs asked.Begin conf conf' old new status = RunsBegin conf conf' old new status
Runs asked.Session conf conf' old new status = RunsSession conf conf' old new status
Runs asked.Other conf conf' old new status = (status ≡ statuses.Usage) × Untouched old new
