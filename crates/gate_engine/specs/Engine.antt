-- What an engine keeps, and when it stands for a plant.
use Rattle.std.specs.Prelude.{◌≡◌, ◌≢◌, ℕ, ◌<◌, ◌≤◌, ◌⊎◌, List, [], ◌∷◌, ◌++◌, length, Option, None, is_some, option_to_list, IfSome}
use Rattle.plant.specs.Plant.{PlantTold}
use Rattle.plant.specs.Clock.{ClockTold}
use Rattle.plant.specs.Entropy.{EntropyTold}
use Rattle.journal_core.specs.declared.fault.MountFault.{MountFault}
use Rattle.journal_core.specs.declared.fault.MountFault.TheVariants as mounts
use Rattle.gate_engine.specs.declared.fault.StartFault.{StartFault}
use Rattle.gate_engine.specs.declared.fault.StartFault.TheVariants as starts
use Rattle.journal_core.specs.Journal.{most_bytes, no_chain, chain_after, IsJournal, BreaksAt, JournalState}
use Rattle.journal_core.specs.Mounting.{IsBegun, Refuses}
use Rattle.plant.specs.Stops.{Stops}
use Rattle.gate_entries.specs.declared.entry.Entry.{Entry}
use Rattle.gate_entries.specs.Spelling.{entry_bytes}
use Rattle.gate_machine.specs.History.{payloads_of, journal_place, Follows, EachFollows, Legal}
use Rattle.gate_engine.specs.Kept.{IsSentOf, Keeps}
use Rattle.gate_base.specs.declared.sixteen.Sixteen.{Sixteen}
use Rattle.plant.specs.Causes.{Rose}
use Rattle.gate_entries.specs.declared.caller.Caller.{Caller}
use Rattle.gate_entries.specs.declared.command.Command.{Command}
use Rattle.gate_machine.specs.declared.answer.Answer.{Answer}
use Rattle.gate_machine.specs.Move.{Held, Holds, SignerCall, Given, Does, Acts, Asks, Goes}
use Rattle.gate_machine.specs.Step.{GivesCall, GivesDraw, Gives, Outside, State}
use Rattle.gate_entries.specs.declared.reply.Reply.{Reply}
use Rattle.gate_entries.specs.declared.reply.Reply.TheVariants as replies

-- the history is legal, the journal has the place and the chain of the history's, and is broken just where an entry is loose
pub record Sound (journal : JournalState) (history : List Entry) (loose : Option Entry) : Type 0 where
  pub legal : Legal history
  pub place : journal.at ≡ journal_place history
  pub linked : journal.chain ≡ chain_after no_chain (payloads_of history)
  pub broken : journal.broken ≡ is_some loose
  pub waits : IfSome loose (λ entry. Follows history entry)

abbrev pub held_as : List Entry → Option Entry → Held
held_as history loose = record { history = history; loose = loose }

abbrev pub outside_of : PlantTold → ClockTold → EntropyTold → Outside
outside_of told clock entropy = record { clock = clock; entropy = entropy; signer = told.signer }

abbrev pub state_of : Held → PlantTold → ClockTold → EntropyTold → State
state_of held told clock entropy = record { held = held; disk_faults = told.disk.faults; outside = outside_of told clock entropy }

-- ---- what a call keeps of plant and history

-- it is kept from what the signer was sent at the start; and the disk's count of faults rose where the reply is a fault of the disk
pub record Leaves (history : List Entry) (told told' : PlantTold) (stops stops' : Stops) (reply : Reply) (new : Held) : Type 0 where
  pub keeps : Keeps (IsSentOf history stops) history told told' stops stops' new
  pub cause : reply ≡ replies.DiskFault → Rose told.disk.faults told'.disk.faults

-- there was no memory before anything was written or sent
pub record WantsRoom (history : List Entry) (call : Option SignerCall) (reply : Reply) (new : Held) : Type 0 where
  pub told : reply ≡ replies.NoMemory
  pub uncalled : call ≡ None
  pub held : Holds new history

-- an answer is carried out, by what the signer gave
pub record CarriesOut (answer : Answer) (history : List Entry) (told told' : PlantTold) (stops stops' : Stops) (reply : Reply) (new : Held) : Type 0 where
  pub call : Option SignerCall
  pub gives : GivesCall told.signer told'.signer call
  pub does : WantsRoom history call reply new ⊎ Does answer history call reply new
  pub leaves : Leaves history told told' stops stops' reply new

-- a command is answered over a reading, by what the random draws and the signer gave
pub record ActsBy (history : List Entry) (caller : Caller) (command : Command) (reading : ℕ) (told told' : PlantTold) (stops stops' : Stops) (entropy entropy' : EntropyTold) (reply : Reply) (new : Held) : Type 0 where
  pub draw : Option (Option Sixteen)
  pub call : Option SignerCall
  pub draws : GivesDraw entropy entropy' draw
  pub gives : GivesCall told.signer told'.signer call
  pub acts : Acts history caller command reading draw call reply new
  pub leaves : Leaves history told told' stops stops' reply new

-- an allowed command is answered, by what the outside gave
pub record AsksBy (history : List Entry) (caller : Caller) (command : Command) (told told' : PlantTold) (stops stops' : Stops) (old now : Outside) (reply : Reply) (new : Held) : Type 0 where
  pub given : Given
  pub gives : Gives old given now
  pub asks : Asks history caller command given reply new
  pub leaves : Leaves history told told' stops stops' reply new

-- a command is answered with nothing loose, by what the outside gave
pub record GoesBy (history : List Entry) (caller : Caller) (command : Command) (told told' : PlantTold) (stops stops' : Stops) (old now : Outside) (reply : Reply) (new : Held) : Type 0 where
  pub given : Given
  pub gives : Gives old given now
  pub goes : Goes history caller command given reply new
  pub leaves : Leaves history told told' stops stops' reply new

-- ---- what a start tells

-- it is the legal history that these payloads are, and nothing is loose
pub record IsFound (payloads : List (List ℕ)) (held : Held) : Type 0 where
  pub settled : held.loose ≡ None
  pub legal : Legal held.history
  pub payloads_are : payloads ≡ payloads_of held.history

-- the payloads are a history up to this place, and the next one is no entry that may come behind it
pub record StraysAt (payloads : List (List ℕ)) (at : ℕ) : Type 0 where
  pub before : List Entry
  pub payload : List ℕ
  pub rest : List (List ℕ)
  pub split : payloads ≡ payloads_of before ++ payload ∷ rest
  pub each : EachFollows [] before
  pub place : at ≡ journal_place before
  pub stray : (entry : Entry) → Follows before entry → payload ≢ entry_bytes entry

-- there are no payloads, or one of them is the first that is no entry which may come behind those before it
abbrev pub IsIllegalAt : List (List ℕ) → ℕ → Type 0
IsIllegalAt payloads at = ((payloads ≡ []) × (at ≡ journal_place [])) ⊎ StraysAt payloads at

-- the bytes are the journal of payloads that are no legal history
pub record IsOfNoHistory (bytes : List ℕ) (at : ℕ) : Type 0 where
  pub payloads : List (List ℕ)
  pub journal : IsJournal payloads bytes
  pub illegal : IsIllegalAt payloads at

-- the bytes begin as a journal does and are longer than any may be
pub record IsTooLong (bytes : List ℕ) (at : ℕ) : Type 0 where
  pub begun : IsBegun bytes
  pub long : most_bytes < length bytes
  pub place : at ≡ most_bytes

-- the bytes break off inside a group
pub record BreaksOff (bytes : List ℕ) (at : ℕ) : Type 0 where
  pub fits : length bytes ≤ most_bytes
  pub breaks : BreaksAt bytes at

-- the bytes begin as a journal does and are no legal one, from this place on
abbrev pub IsBadAt : List ℕ → ℕ → Type 0
IsBadAt bytes at = IsTooLong bytes at ⊎ BreaksOff bytes at ⊎ IsOfNoHistory bytes at

-- why no journal was read, by its bytes. Memory is wanted only for bytes that begin as a journal does and aren't too long
abbrev pub RefusesOpen : StartFault → List ℕ → Type 0
RefusesOpen starts.Disk bytes = Unit {0}
RefusesOpen starts.NotBegun bytes = Refuses mounts.NotBegun bytes
RefusesOpen (starts.JournalBad at) bytes = IsBadAt bytes at
RefusesOpen starts.Clock bytes = ⊥
RefusesOpen (starts.ClockRange reading) bytes = ⊥
RefusesOpen starts.Full bytes = ⊥
RefusesOpen starts.NoMemory bytes = Refuses mounts.NoMemory bytes

-- a fault that reading the journal may end with
abbrev pub IsOpenFault : StartFault → Type 0
IsOpenFault starts.Disk = Unit {0}
IsOpenFault starts.NotBegun = Unit {0}
IsOpenFault (starts.JournalBad at) = Unit {0}
IsOpenFault starts.Clock = ⊥
IsOpenFault (starts.ClockRange reading) = ⊥
IsOpenFault starts.Full = ⊥
IsOpenFault starts.NoMemory = Unit {0}

-- a history that is neither the gate's nor this followed by the loose entry
abbrev pub IsOther : Held → List Entry → Type 0
IsOther held history = (history ≢ held.history) × (history ≢ held.history ++ option_to_list held.loose)

-- a fault that says nothing against the journal's bytes
abbrev pub IsOutside : StartFault → Type 0
IsOutside starts.Disk = Unit {0}
IsOutside starts.NotBegun = ⊥
IsOutside (starts.JournalBad at) = ⊥
IsOutside starts.Clock = Unit {0}
IsOutside (starts.ClockRange reading) = Unit {0}
IsOutside starts.Full = Unit {0}
IsOutside starts.NoMemory = Unit {0}

-- what a fault of the mount is for a start
abbrev pub IsStartFault : MountFault → StartFault → Type 0
IsStartFault mounts.NotBegun fault = fault ≡ starts.NotBegun
IsStartFault (mounts.BadHead at) fault = fault ≡ starts.JournalBad at
IsStartFault (mounts.TooLong count) fault = fault ≡ starts.JournalBad most_bytes
IsStartFault mounts.Disk fault = fault ≡ starts.Disk
IsStartFault mounts.NoMemory fault = fault ≡ starts.NoMemory
