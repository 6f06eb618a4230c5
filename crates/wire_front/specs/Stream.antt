-- The bytes that were taken from a source, and one message after another from them.
use Rattle.std.specs.Prelude.{◌≡◌, ℕ, ◌+◌, ◌<◌, ◌≤◌, ◌^◌, ◌⊎◌, List, [], ◌++◌, length, IfSome}
use Rattle.std.specs.Io.KnownBytes.{prepend_known, Consumes, IsAtEnd}
use Rattle.plant.specs.Causes.{Rose}
use Rattle.plant.specs.Stream.{SourceTold}
use Rattle.gate_entries.specs.declared.command.Command.{Command}
use Rattle.gate_entries.specs.Command.{IsCommand}
use Rattle.wire_front.specs.declared.streaming.Taken.{Taken}
use Rattle.wire_front.specs.declared.streaming.Taken.TheVariants as takes
use Rattle.wire_front.specs.declared.streaming.More.{More}
use Rattle.wire_front.specs.declared.streaming.More.TheVariants as mores
use Rattle.wire_front.specs.Message.{IsMessageOf, HasNoMessage, BeginsWith}

-- the bytes that were taken and not yet used, and how many were taken in all
pub record StreamState : Type 0 where
  pub held : List ℕ
  pub taken : ℕ

-- the most bytes that are taken without an end
abbrev pub most_taken : ℕ
most_taken = 2 ^ 30

-- these bytes went from the front of what was held and left; what was taken went, or is held
pub record Passes (old : StreamState) (source : SourceTold) (new : StreamState) (source' : SourceTold) (bytes : List ℕ) : Type 0 where
  pub gone : Consumes (prepend_known old.held source.left) (prepend_known new.held source'.left) bytes
  pub count : new.taken + length old.held ≡ old.taken + length bytes + length new.held

-- the bytes of a message went
pub record TakesMessage (command : Command) (old : StreamState) (source : SourceTold) (new : StreamState) (source' : SourceTold) : Type 0 where
  pub bytes : List ℕ
  pub asks : IsMessageOf bytes command
  pub some : 1 ≤ length bytes
  pub passes : Passes old source new source' bytes

-- the bytes of what was taken went: those of a message, and else none
abbrev pub Takes : Taken → StreamState → SourceTold → StreamState → SourceTold → Type 0
Takes (takes.Message command) old source new source' = TakesMessage command old source new source'
Takes taken old source new source' = Passes old source new source' []

-- what comes next: a message; the end; bytes that aren't the end and begin with no message; or why it isn't known
abbrev pub Tells : Taken → StreamState → SourceTold → SourceTold → Type 0
Tells (takes.Message command) stream source source' = IsCommand command
Tells takes.End stream source source' = (stream.held ≡ []) × IsAtEnd source'.left
Tells takes.NotBuilt stream source source' = IfSome source'.left (λ more. HasNoMessage (stream.held ++ more) × (1 ≤ length (stream.held ++ more)))
Tells takes.Fault stream source source' = HasNoMessage stream.held × Rose source.faults source'.faults
Tells takes.StreamLong stream source source' = HasNoMessage stream.held × (stream.taken ≡ most_taken)
Tells takes.NoMemory stream source source' = Unit {0}

-- a message that stands at the front of what is held is what is taken, and the source isn't read
abbrev pub TakesAhead : Taken → StreamState → SourceTold → SourceTold → Type 0
TakesAhead taken old source source' =
    (command : Command) (left : ℕ) → BeginsWith old.held command left → (source' ≡ source) × ((taken ≡ takes.Message command) ⊎ (taken ≡ takes.NoMemory))

-- what one call of the source gave: some bytes more, or nothing
abbrev pub Gives : More → StreamState → SourceTold → StreamState → SourceTold → Type 0
Gives mores.Bytes old source new source' = old.taken < new.taken
Gives mores.End old source new source' = (new ≡ old) × IsAtEnd source'.left
Gives mores.Fault old source new source' = (new ≡ old) × Rose source.faults source'.faults
Gives mores.TooMany old source new source' = (new ≡ old) × (old.taken ≡ most_taken)
Gives mores.NoMemory old source new source' = Unit {0}
