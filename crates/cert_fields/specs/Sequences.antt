-- Trees that are a SEQUENCE, and those that are a SEQUENCE of one SEQUENCE.
use Rattle.std.specs.Prelude.{◌==◌, Bool, false, ◌&&◌}
use Rattle.der_text.specs.Tree.{Node, primitive, constructed, Nodes, no_nodes, also}

abbrev pub is_sequence : Node → Bool
is_sequence (primitive tag content) = false
is_sequence (constructed tag parts) = tag == 48

abbrev pub is_one_sequence : Nodes → Bool
is_one_sequence no_nodes = false
is_one_sequence (also first no_nodes) = is_sequence first
is_one_sequence (also first (also second others)) = false

abbrev pub is_sequence_of_one : Node → Bool
is_sequence_of_one (primitive tag content) = false
is_sequence_of_one (constructed tag parts) = tag == 48 && is_one_sequence parts
