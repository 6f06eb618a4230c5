use Rattle.std.proofs.Common.{◌≡◌, ◌++◌, length}
use Rattle.std.specs.List.{filter_map}
use Rattle.evidence_index.specs.Evidence.{evidence_in, all_evidence}
use Rattle.evidence_index.proofs.proving.all_evidence.Given as goal

-- what was found stands in front of what the rest has
abbrev pub invariant-loop-rest : goal.invariant-loop-rest
invariant-loop-rest l =
    l.found.items ++ filter_map (evidence_in l.account l.target l.suffixes l.entries) l.rest ≡ all_evidence l.account l.target l.suffixes l.entries

abbrev pub decreases-loop-rest : goal.decreases-loop-rest
decreases-loop-rest l = length l.rest
