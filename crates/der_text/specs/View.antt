-- The tree that a `Tree` is, without where it lies in memory.
use Rattle.std.specs.Prelude.{List, [], ◌∷◌, map}
use Rattle.der_text.specs.declared.tree.Tree.{Tree}
use Rattle.der_text.specs.declared.tree.Tree.TheOpen.{Tree-F, Prim, Cons}
use Rattle.der_text.specs.declared.tree.Tree.TheFolds.{fold-Tree}
use Rattle.der_text.specs.Tree.{Node, primitive, constructed, Nodes, no_nodes, also}

-- nodes as a list of them
abbrev pub nodes_of : List Node → Nodes
nodes_of [] = no_nodes
nodes_of (first ∷ others) = also first (nodes_of others)

-- one layer, with what its parts stand for in their place
abbrev pub node_step : Tree-F Node → Node
node_step (Prim tag content) = primitive tag content.now
node_step (Cons tag parts) = constructed tag (nodes_of parts.items)

-- the tree that a `Tree` is
abbrev pub node : Tree → Node
node = fold-Tree Node node_step

-- the parts that some `Tree`s are
abbrev pub nodes : List Tree → Nodes
nodes trees = nodes_of (map node trees)
