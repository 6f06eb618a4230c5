-- The observable state of a disk and of a signer.
use Rattle.std.specs.Prelude.{ℕ, ◌+◌, List, ◌++◌, length, take, drop, Option}

-- the bytes that a read gives, where they are told, and the count of faults
pub record DiskTold : Type 0 where
  pub bytes : Option (List ℕ)
  pub faults : ℕ

-- the bodies handed to the signer and its answers (each a body and a signature), where they are told, and the count of faults
pub record SignerTold : Type 0 where
  pub sent : Option (List (List ℕ))
  pub answers : Option (List (List ℕ × List ℕ))
  pub faults : ℕ

pub record PlantTold : Type 0 where
  pub disk : DiskTold
  pub signer : SignerTold

-- a piece over what stands from a place on, and past the end
abbrev pub overwritten : List ℕ → ℕ → List ℕ → List ℕ
overwritten bytes at piece = take at bytes ++ piece ++ drop (at + length piece) bytes
