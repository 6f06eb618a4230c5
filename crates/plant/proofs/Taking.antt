-- A piece that a source fills.
use Rattle.std.proofs.Common.{◌≡◌, ℕ, ◌+◌, ◌≤◌, List, ◌++◌, length, take, Option, ap, sym, ◌∙◌, arith}
use Rattle.std.specs.Io.KnownBytes.{Consumes}
use Rattle.std.proofs.KnownBytes.{Consumes-trans}
use Rattle.std.proofs.lemmas.List.{take-append-le, length-take-le}
use Rattle.std.proofs.Math.Seq.{take-append-add}
use borrow.Rule.Slice.PartMut.{put_mid}
use Rattle.plant.specs.Stream.{SourceTold}

-- so many bytes from the front of a piece have come from the source
pub record Filled (before now : SourceTold) (old new : List ℕ) (filled : ℕ) : Type 0 where
  pub within : filled ≤ length old
  pub same_length : length new ≡ length old
  pub taken : Consumes before.left now.left (take filled new)
  pub later : before.faults ≤ now.faults

-- more bytes came to the place behind what is filled
pub taken_more : (before mid now : Option (List ℕ)) (room piece : List ℕ) (filled count size : ℕ) → filled + size ≡ length room
    → length piece ≡ size → count ≤ size → Consumes before mid (take filled room) → Consumes mid now (take count piece)
    → Consumes before now (take (filled + count) (put_mid filled size room piece))
taken_more before mid now room piece filled count size whole long few first second =
    let front : length (take filled room) ≡ filled = length-take-le filled room (omega (arith, whole)) in
    let parts : take (filled + count) (put_mid filled size room piece) ≡ take filled room ++ take count piece =
    ap (λ n. take (n + count) (put_mid filled size room piece)) (sym front) ∙ take-append-add (take filled room) _ count
    ∙ ap (λ l. take filled room ++ l) (take-append-le count piece _ (omega (arith, long, few))) in
    rw parts (Consumes-trans before mid now (take filled room) (take count piece) first second)
