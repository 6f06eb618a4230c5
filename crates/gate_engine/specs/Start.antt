-- What a start makes of the history that it finds, and what it tells where it is refused.
use Rattle.std.specs.Prelude.{◌≡◌, ◌⊎◌, ℕ, List, [], ◌∷◌, ◌++◌, Option, Some, None}
use Rattle.std.specs.Option.{ForSome}
use Rattle.plant.specs.Plant.{PlantTold}
use Rattle.plant.specs.Clock.{ClockTold, Reads}
use Rattle.plant.specs.Stops.{Stops}
use Rattle.plant.specs.Joining.{Stays}
use Rattle.journal_core.specs.Journal.{IsJournal}
use Rattle.gate_entries.specs.declared.entry.Entry.{Entry}
use Rattle.gate_machine.specs.Answer.{HasRoom, IsInRange, IsOutOfRange}
use Rattle.gate_machine.specs.Commands.Settings.{AreInForce}
use Rattle.gate_machine.specs.History.{payloads_of, Legal}
use Rattle.gate_machine.specs.Move.{Held, Holds, Waits, IsSound, Settles}
use Rattle.gate_machine.specs.Renewal.{renewal_at}
use Rattle.gate_machine.specs.Sight.{place_of}
use Rattle.gate_engine.specs.declared.fault.StartFault.{StartFault}
use Rattle.gate_engine.specs.declared.fault.StartFault.TheVariants as starts
use Rattle.gate_engine.specs.Engine.{RefusesOpen, IsOpenFault}
use Rattle.gate_engine.specs.Kept.{Stands}

-- the entry of settings behind a history, over a reading of the clock
abbrev pub renewal : List ℕ → List Entry → ℕ → Entry
renewal settings history reading = renewal_at (place_of history reading) settings

-- the bytes stay as they were, and so does what a stop may leave
pub record KeepsDisk (told told' : PlantTold) (stops stops' : Stops) : Type 0 where
  pub bytes : told'.disk.bytes ≡ told.disk.bytes
  pub stays : Stays stops stops'

-- ---- the settings are in force behind the start

-- they were in force already: nothing is written, and the clock isn't read
pub record Unchanged (settings : List ℕ) (found : List Entry) (told told' : PlantTold) (stops stops' : Stops) (clock clock' : ClockTold) (new : Held) : Type 0 where
  pub same : AreInForce settings found
  pub unread : clock' ≡ clock
  pub held : Holds new found
  pub keeps : KeepsDisk told told' stops stops'

-- there was room for their entry, and it is committed
pub record RenewedAt (settings : List ℕ) (found : List Entry) (reading : ℕ) (new : Held) : Type 0 where
  pub room : HasRoom found (renewal settings found reading)
  pub held : Holds new (found ++ renewal settings found reading ∷ [])

-- others were in force: the clock is read once, and their entry is committed behind the history
pub record Renewed (settings : List ℕ) (found : List Entry) (clock clock' : ClockTold) (new : Held) : Type 0 where
  pub other : ¬ (AreInForce settings found)
  pub reading : ℕ
  pub reads : Reads clock clock' (Some reading)
  pub in_range : IsInRange reading
  pub renewed : RenewedAt settings found reading new

abbrev pub Starts : List ℕ → List Entry → PlantTold → PlantTold → Stops → Stops → ClockTold → ClockTold → Held → Type 0
Starts settings found told told' stops stops' clock clock' new =
    Unchanged settings found told told' stops stops' clock clock' new ⊎ Renewed settings found clock clock' new

-- the disk held the journal of a legal history, and a start made this of it
pub record Started (settings : List ℕ) (told told' : PlantTold) (stops stops' : Stops) (clock clock' : ClockTold) (new : Held) : Type 0 where
  pub found : List Entry
  pub legal : Legal found
  pub journal : ForSome told.disk.bytes (λ bytes. IsJournal (payloads_of found) bytes)
  -- over what a gate left it is that gate's history, or this and what was loose
  pub settles : ForSome told.disk.bytes (λ bytes. (before : Held) → IsSound before → Stands before stops → Settles before found)
  pub starts : Starts settings found told told' stops stops' clock clock' new

-- ---- a start is refused

-- the entry of the settings isn't committed: the journal is full, the disk failed, or there was no memory
abbrev pub UnrenewedAt : List ℕ → List Entry → ℕ → StartFault → Held → Type 0
UnrenewedAt settings found reading starts.Disk new = HasRoom found (renewal settings found reading) × Waits found (renewal settings found reading) new
UnrenewedAt settings found reading starts.NotBegun new = ⊥
UnrenewedAt settings found reading (starts.JournalBad at) new = ⊥
UnrenewedAt settings found reading starts.Clock new = ⊥
UnrenewedAt settings found reading (starts.ClockRange given) new = ⊥
UnrenewedAt settings found reading starts.Full new = (¬ (HasRoom found (renewal settings found reading))) × Holds new found
UnrenewedAt settings found reading starts.NoMemory new = Holds new found

-- the clock gave no reading
pub record Unread (found : List Entry) (clock clock' : ClockTold) (fault : StartFault) (new : Held) : Type 0 where
  pub told : fault ≡ starts.Clock
  pub reads : Reads clock clock' None
  pub held : Holds new found

-- the clock's reading is out of range
pub record Misread (found : List Entry) (clock clock' : ClockTold) (fault : StartFault) (new : Held) : Type 0 where
  pub reading : ℕ
  pub told : fault ≡ starts.ClockRange reading
  pub reads : Reads clock clock' (Some reading)
  pub out : IsOutOfRange reading
  pub held : Holds new found

-- the clock was read, and the entry isn't committed
pub record Unwritten (settings : List ℕ) (found : List Entry) (clock clock' : ClockTold) (fault : StartFault) (new : Held) : Type 0 where
  pub reading : ℕ
  pub reads : Reads clock clock' (Some reading)
  pub in_range : IsInRange reading
  pub fails : UnrenewedAt settings found reading fault new

abbrev pub Fails : List ℕ → List Entry → ClockTold → ClockTold → StartFault → Held → Type 0
Fails settings found clock clock' fault new =
    Unread found clock clock' fault new ⊎ Misread found clock clock' fault new ⊎ Unwritten settings found clock clock' fault new

-- other settings were in force, and these did not come into force
pub record Unrenewed (settings : List ℕ) (found : List Entry) (clock clock' : ClockTold) (fault : StartFault) (new : Held) : Type 0 where
  pub other : ¬ (AreInForce settings found)
  pub fails : Fails settings found clock clock' fault new

-- no legal journal was read, and the clock wasn't read either
pub record Unopened (told : Option (List ℕ)) (clock clock' : ClockTold) (fault : StartFault) : Type 0 where
  pub opens : IsOpenFault fault
  pub refused : ForSome told (λ bytes. RefusesOpen fault bytes)
  pub unread : clock' ≡ clock

-- the disk held the journal of a legal history, and the settings did not come into force in it
pub record Unstarted (settings : List ℕ) (told : Option (List ℕ)) (clock clock' : ClockTold) (fault : StartFault) : Type 0 where
  pub found : List Entry
  pub legal : Legal found
  pub journal : ForSome told (λ bytes. IsJournal (payloads_of found) bytes)
  pub new : Held
  pub unrenewed : Unrenewed settings found clock clock' fault new

-- what a refused start tells
abbrev pub RefusesStart : List ℕ → Option (List ℕ) → ClockTold → ClockTold → StartFault → Type 0
RefusesStart settings told clock clock' fault = Unopened told clock clock' fault ⊎ Unstarted settings told clock clock' fault
