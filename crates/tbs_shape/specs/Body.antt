-- What the body of a certificate says, part by part (TBSCertificate, RFC 5280, section 4.1). Nothing is judged here.
use Rattle.std.specs.Prelude.{ℕ, Bool, List, Option}

-- an element without parts: its tag and its content
pub record Primitive : Type 0 where
  pub tag : ℕ
  pub content : List ℕ

-- an attribute of the subject (section 4.1.2.4): its type and its value
pub record Attribute : Type 0 where
  pub identifier : List ℕ
  pub value : Primitive

-- an extension (section 4.2): which one it is, whether it is critical, and the content of its OCTET STRING
pub record Extension : Type 0 where
  pub identifier : List ℕ
  pub critical : Bool
  pub value : List ℕ

-- The contents of the version and the serial number; the algorithm of the signature and the issuer, as they stand in
-- the bytes; the times; whether the subject is the empty SEQUENCE, and its attributes; the key's algorithm as it stands
-- in the bytes, and the content of the key's BIT STRING; whether a unique identifier is there; the extensions, if they
-- are.
pub record Body : Type 0 where
  pub version : Option (List ℕ)
  pub serial : List ℕ
  pub algorithm : List ℕ
  pub issuer : List ℕ
  pub not_before : Primitive
  pub not_after : Primitive
  pub subject_is_empty : Bool
  pub subject : List Attribute
  pub key_algorithm : List ℕ
  pub key_bits : List ℕ
  pub has_unique_id : Bool
  pub extensions : Option (List Extension)
