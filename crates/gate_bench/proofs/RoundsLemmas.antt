-- Rounds, one after another.
use Rattle.std.proofs.Common.{◌≡◌, ℕ, ◌+◌, ◌-◌, ◌^◌, min, List, [], ◌∷◌, length, refl, arith}
use Rattle.der_text.specs.declared.tree.Tree.{Tree}
use Rattle.der_text.specs.View.{nodes}
use Rattle.gate_bench.specs.Rounds.{Did, node_count}

pub node_count_of_nodes : (trees : List Tree) → node_count (nodes trees) ≡ length trees
node_count_of_nodes [] = refl
node_count_of_nodes (first ∷ others) = omega (arith, node_count_of_nodes others)

pub did_nothing : {A : Type 0} {IsResult : A → Type 0} {count : A → ℕ} → Did IsResult count 0 0
did_nothing = record { results = []; rounds = refl; each = tt; counted = refl }

-- one round more
pub did_again : {A : Type 0} {IsResult : A → Type 0} {count : A → ℕ} {times total more new : ℕ} (x : A)
    → Did IsResult count times total → IsResult x → more ≡ count x → new ≡ min (total + more) (2 ^ 64 - 1)
    → Did IsResult count (times + 1) new
did_again x did is counts sums = record {
  results = x ∷ did.results;
  rounds = omega (arith, did.rounds);
  each = (is, did.each);
  counted = omega (arith, did.counted, counts, sums);
}
