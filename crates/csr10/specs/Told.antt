-- What a part of the reader tells.
use Rattle.std.specs.Prelude.{◌≡◌, ℕ, List, Result, Err}
use Rattle.gate_base.specs.declared.name.Target.{Target}
use Rattle.der_text.specs.Fault as der
use Rattle.csr10.specs.declared.fault.CsrFault.{CsrFault}
use Rattle.csr10.specs.declared.fault.CsrFault.TheVariants.{Der, Shape, Version, Key, SanTwice, SanName, NoMemory}
use Rattle.csr10.specs.Csr.{Request, HasBadShape, HasTwoSans, HasBadName}

-- a fault is a bad shape, where this holds, or out of memory
abbrev pub IfShape : CsrFault → Type 0 → Type 0
IfShape (Der fault) P = ⊥
IfShape Shape P = P
IfShape Version P = ⊥
IfShape Key P = ⊥
IfShape SanTwice P = ⊥
IfShape (SanName place) P = ⊥
IfShape NoMemory P = Unit {0}

-- a fault of bytes that are no request
abbrev pub IsOuterFault : List ℕ → CsrFault → Type 0
IsOuterFault bytes (Der fault) = der.IsFirstFault bytes fault
IsOuterFault bytes Shape = HasBadShape bytes
IsOuterFault bytes Version = ⊥
IsOuterFault bytes Key = ⊥
IsOuterFault bytes SanTwice = ⊥
IsOuterFault bytes (SanName place) = ⊥
IsOuterFault bytes NoMemory = Unit {0}

-- a fault of the names, by the place of the first that is none
abbrev pub IsNameFault : CsrFault → Result (List Target) ℕ → Type 0
IsNameFault (Der fault) read = ⊥
IsNameFault Shape read = ⊥
IsNameFault Version read = ⊥
IsNameFault Key read = ⊥
IsNameFault SanTwice read = ⊥
IsNameFault (SanName place) read = read ≡ Err place
IsNameFault NoMemory read = Unit {0}

-- a fault of the subjectAltName extensions of a request
abbrev pub IsSanFault : Request → CsrFault → Type 0
IsSanFault request (Der fault) = ⊥
IsSanFault request Shape = ⊥
IsSanFault request Version = ⊥
IsSanFault request Key = ⊥
IsSanFault request SanTwice = HasTwoSans request
IsSanFault request (SanName place) = (¬ HasTwoSans request) × HasBadName request place
IsSanFault request NoMemory = Unit {0}
