-- What every certificate of an authority has in common, and when it can be in one. The key identifier has 20 bytes (RFC 5280,
-- section 4.2.1.1; BR 2.1.5, section 7.1.2.11.1); the number is this project's own.
use Rattle.std.specs.Prelude.{◌≡◌, ℕ, ◌≤◌, Bool, ◌&&◌, nat_le, nat_eq, IsTrue, List, length, codes}
use Rattle.std.specs.List.{list_all, starts_with}
use Rattle.gate_base.specs.declared.profile.Profile.{Profile}
use Rattle.der_text.specs.Tree.{Nodes, constructed, spelling, IsInForm}

-- A Name (RFC 5280, section 4.1.2.4) is a SEQUENCE. It stands one level below the certificate's body, so it has one
-- level less than a tree may have.
pub record IsIssuerName (bytes : List ℕ) : Type 0 where
  pub short : length bytes ≤ 1024
  pub parts : Nodes
  pub spelled : bytes ≡ spelling (constructed 48 parts)
  pub form : IsInForm 31 (constructed 48 parts)

-- a printing character of ASCII that is no space
abbrev pub is_visible : ℕ → Bool
is_visible byte = nat_le 33 byte && nat_le byte 126

-- a web address: at most 512 visible bytes, which begin with the scheme http (BR 2.1.5, sections 7.1.2.7.7 and 7.1.2.11.2; the length is
-- this project's own limit)
abbrev pub is_address : List ℕ → Bool
is_address text = nat_le (length text) 512 && starts_with nat_eq text (codes "http://") && list_all is_visible text

pub record IsSoundProfile (profile : Profile) : Type 0 where
  pub issuer : IsIssuerName profile.issuer
  pub key_id : length profile.key_id.0 ≡ 20
  pub crl : IsTrue (is_address profile.crl)
  pub aia : IsTrue (is_address profile.aia)
