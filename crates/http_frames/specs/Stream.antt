-- The bytes that were taken from a source, and what stands next in them.
use Rattle.std.specs.Prelude.{◌≡◌, ℕ, ◌+◌, ◌<◌, ◌≤◌, ◌^◌, ◌⊎◌, List, [], ◌++◌, length, IfSome, ⊤}
use Rattle.std.specs.Io.KnownBytes.{prepend_known, Consumes, IsAtEnd}
use Rattle.plant.specs.Causes.{Rose}
use Rattle.plant.specs.Stream.{SourceTold}
use Rattle.http_frames.specs.declared.wire.Got.{Got}
use Rattle.http_frames.specs.declared.wire.Got.TheVariants as got
use Rattle.http_frames.specs.declared.wire.More.{More}
use Rattle.http_frames.specs.declared.wire.More.TheVariants as mores
use Rattle.http_frames.specs.Frames.{IsMessage, IsTooLarge, IsUnframed, IsUnfinished}

-- the bytes that were taken and not yet used, and how many were taken in all
pub record WireState : Type 0 where
  pub held : List ℕ
  pub taken : ℕ

-- the most bytes that are taken without an end of input
abbrev pub most_taken : ℕ
most_taken = 2 ^ 30

-- the bytes begin with these
pub record IsFront (front bytes : List ℕ) : Type 0 where
  pub rest : List ℕ
  pub whole : bytes ≡ front ++ rest

-- these bytes went from the front of what was held and left; what was taken went, or is held
pub record Passes (old : WireState) (source : SourceTold) (new : WireState) (source' : SourceTold) (bytes : List ℕ) : Type 0 where
  pub gone : Consumes (prepend_known old.held source.left) (prepend_known new.held source'.left) bytes
  pub count : new.taken + length old.held ≡ old.taken + length bytes + length new.held

-- bytes of which this holds went
pub record PassesSome (Is : List ℕ → Type 0) (old : WireState) (source : SourceTold) (new : WireState) (source' : SourceTold) : Type 0 where
  pub bytes : List ℕ
  pub is : Is bytes
  pub passes : Passes old source new source' bytes

-- what went: a message, one that is too large, or else nothing
abbrev pub Takes : Got → WireState → SourceTold → WireState → SourceTold → Type 0
Takes (got.Message message) old source new source' = PassesSome (λ bytes. IsMessage bytes message) old source new source'
Takes got.TooLarge old source new source' = PassesSome IsTooLarge old source new source'
Takes other old source new source' = Passes old source new source' []

-- what stands next, where nothing went
abbrev pub Tells : Got → WireState → SourceTold → SourceTold → Type 0
Tells (got.Message message) new source source' = ⊤
Tells got.TooLarge new source source' = ⊤
Tells got.End new source source' = (new.held ≡ []) × IsAtEnd source'.left × (new.taken < most_taken)
Tells (got.Unframed status) new source source' = IsUnframed new.held status × IfSome source'.left (λ more. IsUnframed (new.held ++ more) status)
Tells got.Truncated new source source' = IsUnfinished new.held × (1 ≤ length new.held) × IsAtEnd source'.left × (new.taken < most_taken)
Tells got.StreamLong new source source' = IsUnfinished new.held × (new.taken ≡ most_taken)
Tells got.Fault new source source' = IsUnfinished new.held × Rose source.faults source'.faults × (new.taken < most_taken)
Tells got.NoMemory new source source' = ⊤

-- these bytes went from the source to the end of what is held
pub record Grows (old : WireState) (source : SourceTold) (new : WireState) (source' : SourceTold) (bytes : List ℕ) : Type 0 where
  pub held : new.held ≡ old.held ++ bytes
  pub taken : new.taken ≡ old.taken + length bytes
  pub from : Consumes source.left source'.left bytes

-- the most bytes that one call of the source gives
abbrev pub piece_limit : ℕ
piece_limit = 4096

-- a piece that isn't empty was taken
pub record GrowsSome (old : WireState) (source : SourceTold) (new : WireState) (source' : SourceTold) : Type 0 where
  pub piece : List ℕ
  pub some : 1 ≤ length piece
  pub fits : length piece ≤ piece_limit
  pub grows : Grows old source new source' piece

-- what is held stays unfinished as long as it has fewer bytes than these
abbrev pub Awaits : List ℕ → ℕ → Type 0
Awaits held needs = (more : List ℕ) → length (held ++ more) < needs → IsUnfinished (held ++ more)

-- what one call of the source gave: some bytes more, or nothing
abbrev pub Gives : More → WireState → SourceTold → WireState → SourceTold → Type 0
Gives mores.Bytes old source new source' = GrowsSome old source new source'
Gives mores.End old source new source' = Grows old source new source' [] × IsAtEnd source'.left × (old.taken < most_taken)
Gives mores.Fault old source new source' = Grows old source new source' [] × Rose source.faults source'.faults × (old.taken < most_taken)
Gives mores.TooMany old source new source' = Grows old source new source' [] × (old.taken ≡ most_taken)
Gives mores.NoMemory old source new source' = Grows old source new source' []

-- what was taken before the last piece left what was held unfinished: the source wasn't read in vain
pub record IsNeeded (old : WireState) (source : SourceTold) (new : WireState) : Type 0 where
  pub before : List ℕ
  pub unfinished : IsUnfinished (old.held ++ before)
  pub front : IfSome source.left (λ left. IsFront before left)
  pub last : new.taken ≤ old.taken + length before + piece_limit

-- the source wasn't read, or each piece of it was needed
abbrev pub TakesNeeded : WireState → SourceTold → WireState → SourceTold → Type 0
TakesNeeded old source new source' = ((source' ≡ source) × (new.taken ≡ old.taken)) ⊎ (IsUnfinished old.held × IsNeeded old source new)
