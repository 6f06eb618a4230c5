-- One step of a gate over its outside, and a session of steps.
use Rattle.std.specs.Prelude.{◌≡◌, ℕ, ◌≤◌, ◌⊎◌, List, [], ◌∷◌, ◌++◌, sum_by, Option, Some, None, IfSome}
use Rattle.std.specs.Option.{option_map}
use Rattle.std.specs.List.{flat_map}
use Rattle.gate_base.specs.declared.sixteen.Sixteen.{Sixteen}
use Rattle.plant.specs.Causes.{Rose, RoseBy}
use Rattle.plant.specs.Plant.{SignerTold}
use Rattle.plant.specs.Clock.{ClockTold, Reads}
use Rattle.plant.specs.Entropy.{EntropyTold, Draws}
use Rattle.gate_entries.specs.declared.caller.Caller.{Caller}
use Rattle.gate_entries.specs.declared.command.Command.{Command}
use Rattle.gate_entries.specs.declared.entry.Entry.{Entry}
use Rattle.gate_entries.specs.declared.reply.Reply.{Reply}
use Rattle.gate_entries.specs.declared.reply.Reply.TheVariants.{ClockFault, EntropyFault, DiskFault, SignerFault}
use Rattle.gate_machine.specs.Sends.{sent_by, Within}
use Rattle.gate_machine.specs.Move.{Held, SignerCall, Given, Moves}

-- the clock, the random draws, and the signer
pub record Outside : Type 0 where
  pub clock : ClockTold
  pub entropy : EntropyTold
  pub signer : SignerTold

-- a gate and the outside, with the disk's count of faults
pub record State : Type 0 where
  pub held : Held
  pub disk_faults : ℕ
  pub outside : Outside

-- ---- what the objects gave

-- the signer was handed the body and gave no signature: the body is in the list of those it was sent, or it isn't
pub record SignerFails (signer signer' : SignerTold) (body : List ℕ) : Type 0 where
  pub sent : (signer'.sent ≡ signer.sent) ⊎ (signer'.sent ≡ option_map (λ list. list ++ body ∷ []) signer.sent)
  pub answers : signer'.answers ≡ signer.answers
  pub cause : Rose signer.faults signer'.faults

-- the signer was handed the body and signed it
pub record Signs (signer signer' : SignerTold) (body signature : List ℕ) : Type 0 where
  pub sent : signer'.sent ≡ option_map (λ list. list ++ body ∷ []) signer.sent
  pub answers : signer'.answers ≡ option_map (λ list. list ++ (body, signature) ∷ []) signer.answers
  pub later : signer.faults ≤ signer'.faults

abbrev pub GivesSignature : SignerTold → SignerTold → List ℕ → Option (List ℕ) → Type 0
GivesSignature signer signer' body None = SignerFails signer signer' body
GivesSignature signer signer' body (Some signature) = Signs signer signer' body signature

-- an object that wasn't asked stays as it was
abbrev pub GivesCall : SignerTold → SignerTold → Option SignerCall → Type 0
GivesCall signer signer' None = signer' ≡ signer
GivesCall signer signer' (Some call) = GivesSignature signer signer' call.body call.signature

abbrev pub GivesReading : ClockTold → ClockTold → Option (Option ℕ) → Type 0
GivesReading clock clock' None = clock' ≡ clock
GivesReading clock clock' (Some reading) = Reads clock clock' reading

abbrev pub GivesDraw : EntropyTold → EntropyTold → Option (Option Sixteen) → Type 0
GivesDraw entropy entropy' None = entropy' ≡ entropy
GivesDraw entropy entropy' (Some draw) = Draws entropy entropy' draw

pub record Gives (old : Outside) (given : Given) (new : Outside) : Type 0 where
  pub reading : GivesReading old.clock new.clock given.reading
  pub draw : GivesDraw old.entropy new.entropy given.draw
  pub call : GivesCall old.signer new.signer given.call

-- ---- steps

-- one message: what it moves, by what the objects gave. A fault of the disk is told only where its count rose.
pub record Step (old : State) (caller : Caller) (command : Command) (reply : Reply) (new : State) : Type 0 where
  pub given : Given
  pub moves : Moves old.held caller command given reply new.held
  pub gives : Gives old.outside given new.outside
  pub later : old.disk_faults ≤ new.disk_faults
  pub cause : reply ≡ DiskFault → Rose old.disk_faults new.disk_faults

-- a command, its caller and its reply
pub record Asked : Type 0 where
  pub caller : Caller
  pub command : Command
  pub reply : Reply

-- an item of a session: what was asked and answered, or a piece that was refused, with the text of the refusal
pub data Item : Type 0 where
  Exchange : Asked → Item
  Refusal : List ℕ → Item

abbrev pub Handles : State → Item → State → Type 0
Handles old (Exchange asked) new = Step old asked.caller asked.command asked.reply new
Handles old (Refusal text) new = new ≡ old

-- the items, one after another, carry one state to the next
abbrev pub Steps : State → List Item → State → Type 0
Steps old [] new = new ≡ old
Steps old (item ∷ items) new = (mid : State) × Handles old item mid × Steps mid items new

-- ---- faults are counted

-- 1 for a reply that tells a fault of the disk, the clock, the random draws, the signer
abbrev pub tells_disk : Reply → ℕ
tells_disk DiskFault = 1
tells_disk reply = 0

abbrev pub tells_clock : Reply → ℕ
tells_clock ClockFault = 1
tells_clock reply = 0

abbrev pub tells_entropy : Reply → ℕ
tells_entropy EntropyFault = 1
tells_entropy reply = 0

abbrev pub tells_signer : Reply → ℕ
tells_signer SignerFault = 1
tells_signer reply = 0

abbrev pub told_by : (Reply → ℕ) → Item → ℕ
told_by tells (Exchange asked) = tells asked.reply
told_by tells (Refusal text) = 0

-- how many of the items' replies tell the fault
abbrev pub count_told : (Reply → ℕ) → List Item → ℕ
count_told tells items = sum_by (told_by tells) items

-- each object's count of faults rose by at least as many as were told
pub record Counted (old : State) (items : List Item) (new : State) : Type 0 where
  pub disk : RoseBy (count_told tells_disk items) old.disk_faults new.disk_faults
  pub clock : RoseBy (count_told tells_clock items) old.outside.clock.faults new.outside.clock.faults
  pub entropy : RoseBy (count_told tells_entropy items) old.outside.entropy.faults new.outside.entropy.faults
  pub signer : RoseBy (count_told tells_signer items) old.outside.signer.faults new.outside.signer.faults

-- ---- what was sent is recorded

-- the bodies that a history's entries sent
abbrev pub bodies_of : List Entry → List (List ℕ)
bodies_of history = flat_map (λ entry. sent_by entry.what) history

-- each body that the signer was sent has an entry of its own, in order
abbrev pub IsRecorded : SignerTold → List Entry → Type 0
IsRecorded signer history = IfSome signer.sent (λ sent. Within sent (bodies_of history))
