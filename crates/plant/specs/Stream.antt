-- The observable state of a source and a sink of bytes.
use Rattle.std.specs.Prelude.{ℕ, List, take, Option}
use Rattle.std.specs.Io.KnownBytes.{Appends}

-- the bytes that are left, where they are told, and the count of faults
pub record SourceTold : Type 0 where
  pub left : Option (List ℕ)
  pub faults : ℕ

-- the bytes that are held, where they are told, and the count of faults
pub record SinkTold : Type 0 where
  pub held : Option (List ℕ)
  pub faults : ℕ

-- a front of the bytes was appended
abbrev pub AppendsFront : Option (List ℕ) → Option (List ℕ) → List ℕ → Type 0
AppendsFront before now bytes = (count : ℕ) × Appends before now (take count bytes)
