-- The text of a name that is read: in lower case, of ASCII, and not empty.
use Rattle.std.proofs.Common.{◌≡◌, ℕ, Bool, true, false, not, cond, ◌&&◌, ◌==◌, nat_lt, codes, if◌then◌else◌, List, [], ◌∷◌, ◌++◌, length, Option, Some, None, Ok, refl, sym, ap, ◌∙◌, arith}
use Rattle.std.proofs.lemmas.Bool.{ne_eqb, or_parts}
use Rattle.std.proofs.lemmas.List.Folds.{list_all-append}
use Rattle.std.specs.Char.{is_ascii, is_ascii_uppercase}
use Rattle.std.specs.List.{list_any, list_all, join_with_byte}
use Rattle.gate_base.specs.declared.name.Name.{Name}
use Rattle.names_core.specs.declared.fault.NameFault.{NameFault}
use Rattle.names_core.specs.declared.fault.NameFault.TheVariants.{Empty, LongLabel, LongName, BadByte}
use Rattle.names_core.specs.Label.{is_empty, is_too_long, is_label_byte, has_bad_byte}
use Rattle.names_core.specs.Name.{labels_of, first_fault, name_of, name_read, unless}
use Rattle.names_core.specs.Target.{name_text, IsName}

-- a byte of a name's text
abbrev is_low : ℕ → Bool
is_low byte = is_ascii byte && not (is_ascii_uppercase byte)

low_byte : (byte : ℕ) → not (is_label_byte byte) ≡ false → is_low byte ≡ true
low_byte byte good = grind (arith, good)

both : (a b : Bool) → a ≡ true → b ≡ true → (a && b) ≡ true
both a b is also = rw (is, also) refl

low_label : (label : List ℕ) → has_bad_byte label ≡ false → list_all is_low label ≡ true
low_label [] good = refl
low_label (byte ∷ rest) good =
    let parts = or_parts (not (is_label_byte byte)) (has_bad_byte rest) good in
    both (is_low byte) (list_all is_low rest) (low_byte byte parts.0) (low_label rest parts.1)

low_append : (front back : List ℕ) → list_all is_low front ≡ true → list_all is_low back ≡ true
    → list_all is_low (front ++ back) ≡ true
low_append front back is also = list_all-append is_low front back ∙ both _ _ is also

low_joined : (labels : List (List ℕ)) → list_any has_bad_byte labels ≡ false
    → list_all is_low (join_with_byte 46 labels) ≡ true
low_joined [] good = refl
low_joined (label ∷ []) good = low_label label (or_parts (has_bad_byte label) false good).0
low_joined (label ∷ next ∷ labels) good =
    let parts = or_parts (has_bad_byte label) (list_any has_bad_byte (next ∷ labels)) good in
    low_append label (46 ∷ join_with_byte 46 (next ∷ labels)) (low_label label parts.0)
    (low_joined (next ∷ labels) parts.1)

-- ---- a text that is read

no_bad_byte : (a b c d : Bool) (others : Option NameFault) (read name : Name)
    → unless (cond a (Some Empty) (cond b (Some LongLabel) (cond c (Some LongName) (cond d (Some BadByte) others)))) read
    ≡ Ok name → d ≡ false
no_bad_byte true b c d others read name is = absurd (cc is)
no_bad_byte false true c d others read name is = absurd (cc is)
no_bad_byte false false true d others read name is = absurd (cc is)
no_bad_byte false false false true others read name is = absurd (cc is)
no_bad_byte false false false false others read name is = refl

unless_ok : (fault : Option NameFault) (read name : Name) → unless fault read ≡ Ok name → read ≡ name
unless_ok None read name is = cc is
unless_ok (Some fault) read name is = absurd (cc is)

good_labels : (text : List ℕ) (name : Name) → name_read text ≡ Ok name → list_any has_bad_byte name.labels ≡ false
good_labels text name read =
    let same = unless_ok (first_fault text) (name_of text) name read in
    let good : list_any has_bad_byte (labels_of text) ≡ false = no_bad_byte (list_any is_empty (labels_of text))
    (list_any is_too_long (labels_of text)) (nat_lt 253 (length text)) (list_any has_bad_byte (labels_of text)) _
    (name_of text) name read in
    ap (λ (n : Name). list_any has_bad_byte n.labels) (sym same) ∙ good

low_front : (wild : Bool) → list_all is_low (if wild then codes "*." else []) ≡ true
low_front true = refl
low_front false = refl

low_text : (name : Name) → IsName name → list_all is_low (name_text name) ≡ true
low_text name is = low_append (if name.wild then codes "*." else []) (join_with_byte 46 name.labels) (low_front name.wild)
    (low_joined name.labels (good_labels (name_text name) name is))

-- ---- what the rules ask

ascii_and_lower : (bytes : List ℕ) → list_all is_low bytes ≡ true
    → (list_all is_ascii bytes ≡ true) × (list_any is_ascii_uppercase bytes ≡ false)
ascii_and_lower [] low = (refl, refl)
ascii_and_lower (byte ∷ rest) low = grind (arith, low, ascii_and_lower rest)

pub is_of_ascii : (name : Name) → IsName name → list_all is_ascii (name_text name) ≡ true
is_of_ascii name is = (ascii_and_lower (name_text name) (low_text name is)).0

pub has_no_upper_case : (name : Name) → IsName name → list_any is_ascii_uppercase (name_text name) ≡ false
has_no_upper_case name is = (ascii_and_lower (name_text name) (low_text name is)).1

not_empty : (text : List ℕ) (name : Name) → name_read text ≡ Ok name → (length text == 0) ≡ false
not_empty [] name read = absurd (cc read)
not_empty (byte ∷ rest) name read = ne_eqb (length (byte ∷ rest)) 0 (omega arith)

pub has_a_text : (name : Name) → IsName name → (length (name_text name) == 0) ≡ false
has_a_text name is = not_empty (name_text name) name is
