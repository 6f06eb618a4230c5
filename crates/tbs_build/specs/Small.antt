-- The provisional body: the names that a certificate is for, and its serial number. It is no TBSCertificate.
use Rattle.std.specs.Prelude.{ℕ, List}
use Rattle.gate_base.specs.declared.name.Target.{Target}
use Rattle.der_text.specs.Tree.{Node, primitive, constructed, no_nodes, also}
pub use Rattle.tbs_build.specs.Names.{general_name, general_names, IsShort}
pub use Rattle.tbs_build.specs.Plan.{IsSerial}

-- a SEQUENCE of the serial number as an INTEGER and a SEQUENCE of the names
abbrev pub small_body_tree : List ℕ → List Target → Node
small_body_tree serial targets =
    constructed 48 (also (primitive 2 serial) (also (constructed 48 (general_names targets)) no_nodes))
