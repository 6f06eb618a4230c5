-- The names of a subjectAltName as targets (RFC 5280, section 4.2.1.6).
use Rattle.std.specs.Prelude.{ℕ, ◌+◌, List, [], ◌∷◌, Option, Some, None, Result, Ok, Err}
use Rattle.gate_base.specs.declared.name.Target.{Target}
use Rattle.der_text.specs.Tree.{Nodes, no_nodes, also}
use Rattle.cert_fields.specs.GeneralName.{target_of}

abbrev pub in_front : Option Target → Result (List Target) ℕ → Result (List Target) ℕ
in_front None others = Err 0
in_front (Some target) (Ok others) = Ok (target ∷ others)
in_front (Some target) (Err place) = Err (place + 1)

-- the targets of all names, or the place, from 0, of the first name that is none
abbrev pub targets_of : Nodes → Result (List Target) ℕ
targets_of no_nodes = Ok []
targets_of (also first others) = in_front (target_of first) (targets_of others)
