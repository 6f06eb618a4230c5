-- Work that is done in rounds, and what its rounds amount to.
use Rattle.std.specs.Prelude.{◌≡◌, ℕ, zero, suc, ◌+◌, ◌-◌, ◌%◌, ◌^◌, min, List, [], ◌∷◌, length, Option, Some, None, replicate, slice_index, slice_set}
use Rattle.std.specs.List.{AllByRecursion, slice_get}
use Rattle.sha2.specs.Sha256.{sha256}
use Rattle.der_text.specs.Tree.{Node, primitive, constructed, Nodes, no_nodes, also}
use Rattle.names_core.specs.Suffix.{base_len}
use Rattle.names_core.specs.declared.rule.Rule.{Rule}
use Rattle.gate_base.specs.declared.name.Name.{Name}

-- ---- rounds of one kind, in which the same question is asked

-- a number as 64 bits hold it: the greatest in place of one that is too great
abbrev pub capped : ℕ → ℕ
capped n = min n (2 ^ 64 - 1)

abbrev pub sum_of : {A : Type 0} → (A → ℕ) → List A → ℕ
sum_of count [] = 0
sum_of count (first ∷ others) = count first + sum_of count others

-- so many rounds were done, each with a result that the work can have, and the total is what their results count
pub record Did {A : Type 0} (IsResult : A → Type 0) (count : A → ℕ) (times total : ℕ) : Type 0 where
  pub results : List A
  pub rounds : length results ≡ times
  pub each : AllByRecursion IsResult results
  pub counted : total ≡ capped (sum_of count results)

-- ---- trees

abbrev pub node_count : Nodes → ℕ
node_count no_nodes = 0
node_count (also first others) = 1 + node_count others

-- how many parts a tree has at its top
abbrev pub part_count : Node → ℕ
part_count (primitive tag content) = 0
part_count (constructed tag parts) = node_count parts

-- ---- digests

-- a message and a digest: the digest's first byte in the message in place of its own, and the digest of that
abbrev pub digested : List ℕ × List ℕ → List ℕ × List ℕ
digested (message, digest) =
    (slice_set message 0 (slice_index digest 0), sha256 (slice_set message 0 (slice_index digest 0)))

-- the message and its digest after so many rounds, of which each needs the digest of the one before
abbrev pub digested_often : ℕ → List ℕ → List ℕ × List ℕ
digested_often zero message = (message, replicate 32 0)
digested_often (suc n) message = digested (digested_often n message)

-- ---- look-ups

abbrev pub base_count : Option ℕ → ℕ
base_count None = 0
base_count (Some labels) = 1

-- 1 for a name that has a base, otherwise 0
abbrev pub has_base : List Rule → Option Name → ℕ
has_base rules None = 0
has_base rules (Some name) = base_count (base_len rules name.labels)

-- how many of so many names that are asked for in turn have a base
abbrev pub bases_found : List Rule → List Name → ℕ → ℕ
bases_found rules names zero = 0
bases_found rules names (suc n) = bases_found rules names n + has_base rules (slice_get names (n % 64))
