use Rattle.std.proofs.Common.{◌≡◌, map, take}
use Rattle.names_core.specs.Address.{octet_text}
use Rattle.names_core.proofs.address.v4_text.Given as goal

abbrev pub invariant-loop-octet : goal.invariant-loop-octet
invariant-loop-octet l = l.texts ≡ map octet_text (take l.octet-index l.octets)
