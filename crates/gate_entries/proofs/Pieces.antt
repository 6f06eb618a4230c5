-- Pieces put one behind the other.
use Rattle.std.proofs.Common.{◌≡◌, List, ◌++◌}
use Rattle.std.proofs.Common.{append_assoc}

pub five : {A : Type 0} (out a b c d e out1 out2 out3 out4 out5 : List A) → out1 ≡ out ++ a → out2 ≡ out1 ++ b → out3 ≡ out2 ++ c → out4 ≡ out3 ++ d
    → out5 ≡ out4 ++ e → out5 ≡ out ++ (a ++ b ++ c ++ d ++ e)
five out a b c d e out1 out2 out3 out4 out5 is1 is2 is3 is4 is5 =
    rw (is5, is4, is3, is2, is1) (simp append_assoc)

pub six : {A : Type 0} (out a b c d e f out1 out2 out3 out4 out5 out6 : List A) → out1 ≡ out ++ a → out2 ≡ out1 ++ b → out3 ≡ out2 ++ c → out4 ≡ out3 ++ d
    → out5 ≡ out4 ++ e → out6 ≡ out5 ++ f → out6 ≡ out ++ (a ++ b ++ c ++ d ++ e ++ f)
six out a b c d e f out1 out2 out3 out4 out5 out6 is1 is2 is3 is4 is5 is6 =
    rw (is6, is5, is4, is3, is2, is1) (simp append_assoc)

-- pieces and what stands behind them, as a reader meets them
pub two_behind : {A : Type 0} (a b rest : List A) → a ++ b ++ rest ≡ a ++ (b ++ rest)
two_behind a b rest = append_assoc a b rest

pub three_behind : {A : Type 0} (a b c rest : List A) → a ++ b ++ c ++ rest ≡ a ++ (b ++ (c ++ rest))
three_behind a b c rest = simp append_assoc

pub four_behind : {A : Type 0} (a b c d rest : List A) → a ++ b ++ c ++ d ++ rest ≡ a ++ (b ++ (c ++ (d ++ rest)))
four_behind a b c d rest = simp append_assoc

pub five_behind : {A : Type 0} (a b c d e rest : List A) → a ++ b ++ c ++ d ++ e ++ rest ≡ a ++ (b ++ (c ++ (d ++ (e ++ rest))))
five_behind a b c d e rest = simp append_assoc

pub six_behind : {A : Type 0} (a b c d e f rest : List A) → a ++ b ++ c ++ d ++ e ++ f ++ rest ≡ a ++ (b ++ (c ++ (d ++ (e ++ (f ++ rest)))))
six_behind a b c d e f rest = simp append_assoc
