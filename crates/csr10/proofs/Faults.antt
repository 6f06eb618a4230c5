-- Which fault is the first.
use Rattle.std.proofs.Common.{◌≡◌, [], ◌∷◌}
use Rattle.gate_base.specs.declared.profile.KeyKind.{KeyKind}
use Rattle.public_key.specs.Key.{IsKeyOf}
use Rattle.csr10.specs.declared.fault.CsrFault.{CsrFault}
use Rattle.csr10.specs.declared.fault.CsrFault.TheVariants.{Der, Shape, Version, Key, SanTwice, SanName, NoMemory}
use Rattle.csr10.specs.Csr.{Request, HasFault}
use Rattle.csr10.specs.Told.{IsSanFault}

-- where the version and the key are good, a fault of the names is the first
pub san_fault : (request : Request) (kind : KeyKind) (fault : CsrFault) → request.version ≡ 0 ∷ [] → IsKeyOf request.spki kind
    → IsSanFault request fault → HasFault request fault
san_fault request kind (Der fault) version key e = e
san_fault request kind Shape version key e = e
san_fault request kind Version version key e = absurd e
san_fault request kind Key version key e = absurd e
san_fault request kind SanTwice version key e = (λ bad. bad version, λ bad. bad kind key, e)
san_fault request kind (SanName place) version key e = (λ bad. bad version, λ bad. bad kind key, e.0, e.1)
san_fault request kind NoMemory version key e = tt
