-- The words by which a file names roles, regions and algorithms.
use Rattle.std.specs.Prelude.{List, ℕ, codes, Option, Some, None, if◌then◌else◌}
use Rattle.std.specs.Str.{bytes_eq}
use Rattle.gate_base.specs.declared.profile.Role.{Role}
use Rattle.gate_base.specs.declared.profile.Role.TheVariants.{Account, Perspective, Operator}
use Rattle.gate_base.specs.declared.profile.SigAlg.{SigAlg}
use Rattle.gate_base.specs.declared.profile.SigAlg.TheVariants.{RsaSha256, EcdsaSha256, EcdsaSha384}
use Rattle.perspectives.specs.declared.perspective.Region.{Region}
use Rattle.perspectives.specs.declared.perspective.Region.TheVariants.{Afrinic, Apnic, Arin, Lacnic, Ripe}

abbrev pub role_of : List ℕ → Option Role
role_of text =
    if bytes_eq text (codes "account") then Some Account else
    if bytes_eq text (codes "perspective") then Some Perspective else
    if bytes_eq text (codes "operator") then Some Operator else None

-- the five regional Internet registries
abbrev pub region_of : List ℕ → Option Region
region_of text =
    if bytes_eq text (codes "afrinic") then Some Afrinic else if bytes_eq text (codes "apnic") then Some Apnic else
    if bytes_eq text (codes "arin") then Some Arin else if bytes_eq text (codes "lacnic") then Some Lacnic else
    if bytes_eq text (codes "ripe") then Some Ripe else None

abbrev pub algorithm_of : List ℕ → Option SigAlg
algorithm_of text =
    if bytes_eq text (codes "rsa-sha256") then Some RsaSha256 else
    if bytes_eq text (codes "ecdsa-sha256") then Some EcdsaSha256 else
    if bytes_eq text (codes "ecdsa-sha384") then Some EcdsaSha384 else None
