-- A domain name that is read is a name.
use Rattle.std.proofs.Common.{◌≡◌, ℕ, Bool, true, false, cond, List, Option, Some, None, Result, Ok, Err, refl, ap, ◌∙◌}
use Rattle.gate_base.specs.declared.name.Address.{Address}
use Rattle.gate_base.specs.declared.name.Address.TheVariants.{V4, V6}
use Rattle.gate_base.specs.declared.name.Name.{Name}
use Rattle.gate_base.specs.declared.name.Target.TheVariants.{Dns}
use Rattle.names_core.specs.declared.fault.NameFault.{NameFault}
use Rattle.names_core.specs.Address.{v4_of, v6_of}
use Rattle.names_core.specs.Name.{name_read}
use Rattle.names_core.specs.Target.{IsName, address_read, dns_read, has_colon, ends_in_number, target_read}
use Rattle.names_core.proofs.TargetText.{IsName-read}

not_dns : (family : List ℕ → Address) (octets : Option (List ℕ)) (name : Name) → address_read family octets ≡ Ok (Dns name) → ⊥
not_dns family (Some octets) name e = absurd cc
not_dns family None name e = absurd cc

named : (text : List ℕ) (name : Name) (r : Result Name NameFault) → name_read text ≡ r → dns_read r ≡ Ok (Dns name) → IsName name
named text name (Ok other) is e = let same : other ≡ name = cc in IsName-read text name (is ∙ ap Ok same)
named text name (Err fault) is e = absurd cc

by_form : (text : List ℕ) (name : Name) (colon number : Bool)
    → cond colon (address_read V6 (v6_of text)) (cond number (address_read V4 (v4_of text)) (dns_read (name_read text))) ≡ Ok (Dns name) → IsName name
by_form text name true number e = absurd (not_dns V6 (v6_of text) name e)
by_form text name false true e = absurd (not_dns V4 (v4_of text) name e)
by_form text name false false e = named text name (name_read text) refl e

pub dns_is_name : (text : List ℕ) (name : Name) → target_read text ≡ Ok (Dns name) → IsName name
dns_is_name text name e = by_form text name (has_colon text) (ends_in_number text) e
