-- A target's text is what it was read from, in lower case, and is read to the target again.
use Rattle.std.proofs.Common.{◌≡◌, ℕ, Bool, true, false, cond, codes, if◌then◌else◌, List, [], ◌∷◌, ◌++◌, drop, map, Option, Some, None, Result, Ok, Err, IfOk, refl, sym, ap, ap₂, subst, ◌∙◌}
use Rattle.std.specs.Char.{to_ascii_lowercase}
use Rattle.std.specs.List.{join_with_byte, slice_split}
use Rattle.std.proofs.lemmas.Bool.Decides.{Decides-eqb}
use Rattle.std.proofs.lemmas.List.{map-append}
use Rattle.std.proofs.lemmas.List.Splits.{join_with_byte-slice_split}
use Rattle.std.proofs.lemmas.Slice.Eq.{starts_is}
use Rattle.gate_base.specs.declared.name.Address.TheVariants.{V4, V6}
use Rattle.gate_base.specs.declared.name.Name.{Name}
use Rattle.gate_base.specs.declared.name.Target.{Target}
use Rattle.gate_base.specs.declared.name.Target.TheVariants.{Dns, Ip}
use Rattle.names_core.specs.declared.fault.NameFault.{NameFault}
use Rattle.names_core.specs.declared.fault.NameRead.{NameRead}
use Rattle.names_core.specs.Address.{v4_of, v6_of}
use Rattle.names_core.specs.Name.{Gives, in_lower_case, is_full_stop, is_wild, name_read}
use Rattle.names_core.specs.Target.{IsName, IsTarget, IsWritten, address_read, dns_read, ends_in_number, has_colon, name_text, target_read, target_text}
use Rattle.names_core.proofs.AddressText.{v4_text-of, v6_text-of}
use Rattle.names_core.proofs.LowerCase.{ends_in_number-lower, has_colon-lower, name_read-lower}
use Rattle.names_core.proofs.NameLemmas.{IsNameOf-read}

lower-joined : (parts : List (List ℕ)) → in_lower_case (join_with_byte 46 parts) ≡ join_with_byte 46 (map in_lower_case parts)
lower-joined [] = refl
lower-joined (x ∷ []) = refl
lower-joined (x ∷ y ∷ parts) =
    map-append to_ascii_lowercase x (46 ∷ join_with_byte 46 (y ∷ parts)) ∙ ap (λ text. in_lower_case x ++ 46 ∷ text) (lower-joined (y ∷ parts))

joined-lower : (text : List ℕ) → join_with_byte 46 (map in_lower_case (slice_split is_full_stop text)) ≡ in_lower_case text
joined-lower text = sym (lower-joined (slice_split is_full_stop text)) ∙ ap in_lower_case (join_with_byte-slice_split 46 text)

behind_star : (text : List ℕ) → is_wild text ≡ true → text ≡ codes "*." ++ drop 2 text
behind_star text wild = (starts_is Decides-eqb text (codes "*.") (is_wild text) refl).0 wild

written-by : (wild : Bool) (text : List ℕ) → is_wild text ≡ wild → (if wild then codes "*." else []) ++ join_with_byte 46 (map in_lower_case (slice_split is_full_stop (if wild then drop 2 text else text))) ≡ in_lower_case text
written-by true text is = ap (λ rest. codes "*." ++ rest) (joined-lower (drop 2 text)) ∙ ap in_lower_case (sym (behind_star text is))
written-by false text is = joined-lower text

name_text-read : (text : List ℕ) (name : Name) → name_read text ≡ Ok name → name_text name ≡ in_lower_case text
name_text-read text name read =
    let of = IsNameOf-read text name read in
    ap₂ (λ wild labels. (if wild then codes "*." else []) ++ join_with_byte 46 labels) of.wild of.labels ∙ written-by (is_wild text) text refl

-- a name that is read is read from its own text
pub IsName-read : (text : List ℕ) (name : Name) → name_read text ≡ Ok name → IsName name
IsName-read text name read = ap name_read (name_text-read text name read) ∙ name_read-lower text ∙ read

pub IsName-Gives : (text : List ℕ) (result : Result Name NameRead) → Gives result (name_read text) → IfOk result (λ value. IsName value)
IsName-Gives text (Ok value) gives = IsName-read text value gives
IsName-Gives text (Err error) gives = tt

-- how a target was read
data Origin (text : List ℕ) (target : Target) : Type 0 where
  from_v6 : (octets : List ℕ) → target ≡ Ip (V6 octets) → v6_of text ≡ Some octets → Origin text target
  from_v4 : (octets : List ℕ) → target ≡ Ip (V4 octets) → v4_of text ≡ Some octets → Origin text target
  from_name : (name : Name) → target ≡ Dns name → has_colon text ≡ false → ends_in_number text ≡ false → name_read text ≡ Ok name → Origin text target

origin_v6 : (text : List ℕ) (target : Target) (octets : Option (List ℕ)) → v6_of text ≡ octets → address_read V6 octets ≡ Ok target → Origin text target
origin_v6 text target (Some octets) is read = from_v6 octets (cc) is
origin_v6 text target None is read = absurd (cc)

origin_v4 : (text : List ℕ) (target : Target) (octets : Option (List ℕ)) → v4_of text ≡ octets → address_read V4 octets ≡ Ok target → Origin text target
origin_v4 text target (Some octets) is read = from_v4 octets (cc) is
origin_v4 text target None is read = absurd (cc)

origin_name : (text : List ℕ) (target : Target) → has_colon text ≡ false → ends_in_number text ≡ false → (read : Result Name NameFault) → name_read text ≡ read → dns_read read ≡ Ok target → Origin text target
origin_name text target colon number (Ok name) is read = from_name name (cc) colon number is
origin_name text target colon number (Err fault) is read = absurd (cc)

origin_by : (text : List ℕ) (target : Target) (colon number : Bool) → has_colon text ≡ colon → ends_in_number text ≡ number → cond colon (address_read V6 (v6_of text)) (cond number (address_read V4 (v4_of text)) (dns_read (name_read text))) ≡ Ok target → Origin text target
origin_by text target true number is_colon is_number read = origin_v6 text target (v6_of text) refl read
origin_by text target false true is_colon is_number read = origin_v4 text target (v4_of text) refl read
origin_by text target false false is_colon is_number read = origin_name text target is_colon is_number (name_read text) refl read

origin : (text : List ℕ) (target : Target) → target_read text ≡ Ok target → Origin text target
origin text target read = origin_by text target (has_colon text) (ends_in_number text) refl refl read

written_from : (text : List ℕ) (target : Target) → Origin text target → IsWritten text target
written_from text target (from_v6 octets is found) = subst (IsWritten text) (sym is) (v6_text-of text octets found)
written_from text target (from_v4 octets is found) = subst (IsWritten text) (sym is) (v4_text-of text octets found)
written_from text target (from_name name is colon number read) = subst (IsWritten text) (sym is) (name_text-read text name read)

pub IsWritten-Gives : (text : List ℕ) (result : Result Target NameRead) → Gives result (target_read text) → IfOk result (λ target. IsWritten text target)
IsWritten-Gives text (Ok target) gives = written_from text target (origin text target gives)
IsWritten-Gives text (Err error) gives = tt

-- a text that is read as a name is read so in lower case
name-lower : (text : List ℕ) (name : Name) → has_colon text ≡ false → ends_in_number text ≡ false → name_read text ≡ Ok name → target_read (in_lower_case text) ≡ Ok (Dns name)
name-lower text name colon number read =
    let lower = in_lower_case text in
    (λ i. cond ((has_colon-lower text ∙ colon) i) (address_read V6 (v6_of lower)) (cond ((ends_in_number-lower text ∙ number) i) (address_read V4 (v4_of lower)) (dns_read ((name_read-lower text ∙ read) i))))

again_from : (text : List ℕ) (target : Target) → target_read text ≡ Ok target → Origin text target → target_read (target_text target) ≡ Ok target
again_from text target read (from_v6 octets is found) = ap target_read (ap target_text is ∙ v6_text-of text octets found) ∙ read
again_from text target read (from_v4 octets is found) = ap target_read (ap target_text is ∙ v4_text-of text octets found) ∙ read
again_from text target read (from_name name is colon number named) =
    ap target_read (ap target_text is ∙ name_text-read text name named) ∙ name-lower text name colon number named ∙ ap Ok (sym is)

pub target_read-text : (target : Target) → IsTarget target → target_read (target_text target) ≡ Ok target
target_read-text target read = again_from read.0 target read.1 (origin read.0 target read.1)
