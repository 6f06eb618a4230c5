-- The texts of names that are read, and the octets of addresses, are short enough for a certificate.
use Rattle.std.proofs.Common.{◌≤◌, List, [], ◌∷◌, length, arith}
use Rattle.std.specs.List.{AllByRecursion}
use Rattle.gate_base.specs.declared.name.Address.TheVariants.{V4, V6}
use Rattle.gate_base.specs.declared.name.Name.{Name}
use Rattle.gate_base.specs.declared.name.Target.{Target}
use Rattle.gate_base.specs.declared.name.Target.TheVariants.{Dns, Ip}
use Rattle.names_core.specs.Target.{name_text, IsName}
use Rattle.tbs_build.specs.Names.{IsShort, IsTarget}

module _ (few : (name : Name) → IsName name → length (name_text name) ≤ 253) where
  is_short : (target : Target) → IsTarget target → IsShort target
  is_short (Dns name) is = few name is
  is_short (Ip (V4 octets)) is = omega (arith, is)
  is_short (Ip (V6 octets)) is = omega (arith, is)

  pub are_short : (targets : List Target) → AllByRecursion IsTarget targets → AllByRecursion IsShort targets
  are_short [] each = tt
  are_short (target ∷ targets) each = (is_short target each.0, are_short targets each.1)
