-- What the words ask for, and the body that it gives for a request.
use Rattle.std.specs.Prelude.{◌≡◌, ◌≢◌, ◌⊎◌, ℕ, ◌+◌, ◌≤◌, ◌<◌, Bool, true, false, IsTrue, List, [], ◌∷◌, length, codes, Some, None, Ok}
use Rattle.std.specs.List.{AllByRecursion}
use Rattle.std.specs.Str.Parse.{digits_value, without_leading_plus, IsNumeral}
use Rattle.hex.specs.Hex.{decode_sized}
use Rattle.gate_base.specs.declared.profile.Profile.{Profile}
use Rattle.gate_base.specs.declared.profile.SigAlg.{SigAlg}
use Rattle.gate_base.specs.declared.profile.SigAlg.TheVariants.{RsaSha256, EcdsaSha256, EcdsaSha384}
use Rattle.gate_base.specs.declared.name.Target.{Target}
use Rattle.csr10.specs.Csr.{Fields, IsCsr, IsFirstFault}
use Rattle.csr10.specs.declared.fault.CsrFault.{CsrFault}
use Rattle.csr10.specs.declared.fault.CsrFault.TheVariants as csr_faults
use Rattle.tbs_build.specs.Body.{body_of}
use Rattle.tbs_build.specs.Names.{IsShort}
use Rattle.tbs_build.specs.Plan.{Plan, IsSerial, IsSound, begins_with_name}
use Rattle.sample_body.specs.declared.fault.Fault.{Fault}
use Rattle.sample_body.specs.declared.fault.Fault.TheVariants.{Usage, Long, Request, NoNames, Names}
use Rattle.sample_body.specs.declared.fault.Fault.TheVariants.{Key, Input, Output, NoMemory}
use Rattle.sample_body.specs.declared.words.Wanted.{Wanted}

-- ---- the words

-- a whole number of seconds since 1970, in decimal digits
pub record IsSeconds (word : List ℕ) (seconds : ℕ) : Type 0 where
  pub digits : IsNumeral 10 (without_leading_plus word)
  pub number : digits_value 10 (without_leading_plus word) ≡ seconds

-- whether the first name is the subject's commonName
abbrev pub subject_word : Bool → List ℕ
subject_word false = codes "empty-subject"
subject_word true = codes "common-name"

abbrev pub algorithm_word : SigAlg → List ℕ
algorithm_word RsaSha256 = codes "sha256WithRSAEncryption"
algorithm_word EcdsaSha256 = codes "ecdsa-with-SHA256"
algorithm_word EcdsaSha384 = codes "ecdsa-with-SHA384"

-- Behind the program's name stand four words: the serial number in hexadecimal, the first second, the subject's word
-- and the algorithm's.
pub record Asks (words : List (List ℕ)) (wanted : Wanted) : Type 0 where
  pub program : List ℕ
  pub serial : List ℕ
  pub begin : List ℕ
  pub are : words ≡ program ∷ serial ∷ begin ∷ subject_word wanted.common ∷ algorithm_word wanted.alg ∷ []
  pub number : decode_sized serial 16 ≡ Ok wanted.serial.0
  pub first : IsSeconds begin wanted.not_before.0

-- ---- the profile

-- The profile of the example: the name with the commonName `Gate CA` alone, a key identifier of twenty bytes 22, and
-- two addresses.
pub record IsExample (signed_by : SigAlg) (profile : Profile) : Type 0 where
  pub issuer : profile.issuer ≡ 0x30 ∷ 0x12 ∷ 0x31 ∷ 0x10 ∷ 0x30 ∷ 0x0e ∷ 0x06 ∷ 0x03 ∷ 0x55 ∷ 0x04 ∷ 0x03 ∷ 0x0c ∷ 0x07
      ∷ 0x47 ∷ 0x61 ∷ 0x74 ∷ 0x65 ∷ 0x20 ∷ 0x43 ∷ 0x41 ∷ []
  pub alg : profile.alg ≡ signed_by
  pub key_id : profile.key_id.0 ≡ 0x22 ∷ 0x22 ∷ 0x22 ∷ 0x22 ∷ 0x22 ∷ 0x22 ∷ 0x22 ∷ 0x22 ∷ 0x22 ∷ 0x22 ∷ 0x22 ∷ 0x22 ∷ 0x22
      ∷ 0x22 ∷ 0x22 ∷ 0x22 ∷ 0x22 ∷ 0x22 ∷ 0x22 ∷ 0x22 ∷ []
  pub crl : profile.crl ≡ codes "http://c.example/1.crl"
  pub aia : profile.aia ≡ codes "http://c.example/1.cer"

-- ---- the body

-- a serial number of sixteen bytes, and a first second from which 47 days end with the year 9999 at the latest
pub record CanBeMet (wanted : Wanted) : Type 0 where
  pub serial : IsSerial wanted.serial.0
  pub size : length wanted.serial.0 ≡ 16
  pub time : wanted.not_before.0 ≤ 253398240000

-- 1 to 255 names, none too long, of which the first is no address where it is wanted as commonName
pub record CanStand (common : Bool) (targets : List Target) : Type 0 where
  pub some : 1 ≤ length targets
  pub count : length targets ≤ 255
  pub short : AllByRecursion IsShort targets
  pub named : IsTrue common → IsTrue (begins_with_name targets)

-- The plan takes its key and its names from the request, and lasts 47 days: 4,060,800 seconds, of which the first and
-- the last count (RFC 5280, section 4.1.2.5).
pub record IsPlanFor (request : List ℕ) (wanted : Wanted) (plan : Plan) : Type 0 where
  pub fields : Fields
  pub asked : IsCsr request fields
  pub key : plan.spki ≡ fields.spki
  pub names : fields.san ≡ Some plan.targets
  pub serial : plan.serial ≡ wanted.serial.0
  pub first : plan.not_before ≡ wanted.not_before.0
  pub last : plan.not_after ≡ wanted.not_before.0 + 4060799
  pub common : plan.common ≡ wanted.common
  pub profile : IsExample wanted.alg plan.profile
  pub sound : IsSound plan

-- the body of a plan for a request of at most 16,384 bytes
pub record IsSample (request : List ℕ) (wanted : Wanted) (body : List ℕ) : Type 0 where
  pub fits : length request ≤ 16384
  pub plan : Plan
  pub planned : IsPlanFor request wanted plan
  pub spelled : body ≡ body_of plan

-- a fault of a request is told as it is, except out of memory
abbrev pub IsFromRequest : CsrFault → Fault → Type 0
IsFromRequest fault told =
    ((fault ≡ csr_faults.NoMemory) × (told ≡ NoMemory))
    ⊎ ((fault ≢ csr_faults.NoMemory) × (told ≡ Request fault))

-- the names of the request's subjectAltName can't stand
pub record HasBadNames (request : List ℕ) (common : Bool) : Type 0 where
  pub fields : Fields
  pub asked : IsCsr request fields
  pub targets : List Target
  pub names : fields.san ≡ Some targets
  pub bad : ¬ (CanStand common targets)

-- why there is no sample for a request; out of memory may be returned at any time
abbrev pub IsWhy : List ℕ → Wanted → Fault → Type 0
IsWhy request wanted Usage = ⊥
IsWhy request wanted Long = 16384 < length request
IsWhy request wanted (Request fault) = (fault ≢ csr_faults.NoMemory) × IsFirstFault request fault
IsWhy request wanted NoNames = (fields : Fields) × IsCsr request fields × (fields.san ≡ None)
IsWhy request wanted Names = HasBadNames request wanted.common
IsWhy request wanted Key = (fields : Fields) × IsCsr request fields × (16384 < length fields.spki)
IsWhy request wanted (Input fault) = ⊥
IsWhy request wanted (Output fault) = ⊥
IsWhy request wanted NoMemory = Unit {0}

-- why names are refused
abbrev pub IsNamesFault : Bool → List Target → Fault → Type 0
IsNamesFault common targets Usage = ⊥
IsNamesFault common targets Long = ⊥
IsNamesFault common targets (Request fault) = ⊥
IsNamesFault common targets NoNames = ⊥
IsNamesFault common targets Names = ¬ (CanStand common targets)
IsNamesFault common targets Key = ⊥
IsNamesFault common targets (Input fault) = ⊥
IsNamesFault common targets (Output fault) = ⊥
IsNamesFault common targets NoMemory = Unit {0}
