-- How many octets the length of a content has.
use Rattle.std.proofs.Common.{ℕ, List, ◌+◌, ◌≤◌, length, length-append, arith}
use Rattle.der_text.specs.Tree.{length_octets, element}

five_octets : (n : ℕ) → length (length_octets n) ≤ 5
unfolding length_octets
five_octets n = grind arith

pub length-element : (tag : ℕ) (content : List ℕ) → length (element tag content) ≤ 6 + length content
length-element tag content = omega
    (arith, five_octets (length content), length-append (length_octets (length content)) content)
