-- What is written, in whole or not at all, is torn within its range.
use Rattle.std.proofs.Common.{◌≡◌, ◌-◌, ℕ, ◌+◌, ◌≤◌, List, ◌++◌, length, take, drop, append_assoc, refl, sym, ap, ◌∙◌, arith}
use Rattle.std.proofs.lemmas.List.{take_at, drop_at, drop-drop, length-take, length-drop, length-append}
use Rattle.plant.specs.Plant.{overwritten}
use Rattle.plant.specs.Tearing.{Torn}

pub torn_none : (at count : ℕ) (bytes : List ℕ) → Torn at count bytes bytes
torn_none at count bytes = record { front = refl; back = refl; no_shorter = omega arith; no_longer = omega arith }

pub torn_whole : (at : ℕ) (piece bytes : List ℕ) → at ≤ length bytes → Torn at (length piece) bytes (overwritten bytes at piece)
torn_whole at piece bytes within =
    let rest : List ℕ = drop (at + length piece) bytes in
    let front : length (take at bytes) ≡ at = omega (arith, length-take at bytes, within) in
    let parts : overwritten bytes at piece ≡ take at bytes ++ (piece ++ rest) = append_assoc (take at bytes) piece rest in
    let behind : drop at (take at bytes ++ (piece ++ rest)) ≡ piece ++ rest = drop_at (take at bytes) (piece ++ rest) at front in
    let size : length (overwritten bytes at piece) ≡ at + (length piece + (length bytes - (at + length piece)))
    = ap length parts ∙ length-append (take at bytes) (piece ++ rest) ∙ omega (arith, front, length-append piece rest, length-drop (at + length piece) bytes) in
    record {
      front = ap (take at) parts ∙ take_at (take at bytes) (piece ++ rest) at front;
      back = ap (drop (at + length piece)) parts ∙ sym (drop-drop (length piece) at (take at bytes ++ (piece ++ rest)))
          ∙ ap (drop (length piece)) behind ∙ drop_at piece rest (length piece) refl;
      no_shorter = omega (arith, size, within);
      no_longer = omega (arith, size, within);
    }
