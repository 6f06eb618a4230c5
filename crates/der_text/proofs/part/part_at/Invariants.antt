use Rattle.std.proofs.Common.{drop}
use Rattle.der_text.proofs.Paths.{Leads}
use Rattle.der_text.proofs.part.part_at.Given as goal

-- the rest of the path leads from the part at hand to the one that is meant
abbrev pub invariant-loop-i : goal.invariant-loop-i
invariant-loop-i l = Leads l.bytes l.path l.part (drop l.i-index l.path)
