-- The tree that each variant of a `Tree` is.
use Rattle.std.proofs.Common.{◌≡◌, ℕ, ap, sym, ◌∙◌}
use Rattle.der_text.specs.declared.tree.Tree.TheOpen as layer
use Rattle.der_text.specs.declared.tree.Tree.TheVariants.{Prim, rolls-Prim, rolls-Cons}
use Rattle.der_text.specs.declared.tree.Tree.TheViews.{Cons}
use Rattle.der_text.specs.declared.tree.Tree.TheFolds.{fold-roll-Tree}
use Rattle.der_text.specs.Tree.{Node, primitive, constructed}
use Rattle.der_text.specs.View.{node_step, node, nodes}

pub node_prim : (tag : ℕ) (content : _) → node (Prim tag content) ≡ primitive tag content.now
node_prim tag content = ap node (sym (rolls-Prim tag content)) ∙ fold-roll-Tree Node node_step (layer.Prim tag content)

pub node_cons : (tag : ℕ) (parts : _) → node (Cons tag parts) ≡ constructed tag (nodes parts.items)
node_cons tag parts = ap node (sym (rolls-Cons tag parts)) ∙ fold-roll-Tree Node node_step (layer.Cons tag parts)
