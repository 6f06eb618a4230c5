use Rattle.std.proofs.Common.{◌≡◌, ◌++◌, ◌==◌, length}
use Rattle.std.specs.Option.{option_map}
use Rattle.std.specs.List.{slice_split}
use Rattle.names_core.specs.Address.{read_each, octet_of}
use Rattle.names_core.proofs.address.octets_of.Given as goal

abbrev pub invariant-loop-part : goal.invariant-loop-part
invariant-loop-part l =
    option_map (λ back. l.octets.items ++ back) (read_each octet_of (slice_split (λ byte. byte == 46) l.rest))
    ≡ read_each octet_of (slice_split (λ byte. byte == 46) l.text)

abbrev pub decreases-loop-part : goal.decreases-loop-part
decreases-loop-part l = length l.rest
