use Rattle.std.proofs.Common.{◌≡◌, ◌++◌, ◌*◌, ◌≤◌, length, drop}
use Rattle.std.specs.List.{AllByRecursion}
use Rattle.der_text.specs.Tree.{spellings}
use Rattle.tbs_build.specs.Names.{general_names, IsShort}
use Rattle.tbs_build.proofs.names.names_of.Given as goal

-- what is written, and the names to come
abbrev pub invariant-loop-target : goal.invariant-loop-target
invariant-loop-target l = record {
  written : l.names.items ++ spellings (general_names (drop l.target-index l.targets)) ≡ spellings
      (general_names l.targets);
  short : AllByRecursion IsShort (drop l.target-index l.targets);
  few : length l.names.items ≤ 256 * l.target-index;
}
