-- What text is a domain name, and what is wrong with other text.
use Rattle.std.specs.Prelude.{◌≡◌, ℕ, ◌<◌, Bool, false, IsTrue, IsFalse, ◌==◌, nat_lt, nat_eq, List, [], ◌∷◌, length, drop, map, codes, Option, Some, None, Result, Ok, Err, if◌then◌else◌}
use Rattle.std.specs.Char.{to_ascii_lowercase}
use Rattle.std.specs.List.{list_any, find, starts_with, slice_split}
use Rattle.gate_base.specs.declared.name.Name.{Name}
use Rattle.names_core.specs.declared.fault.NameFault.{NameFault}
use Rattle.names_core.specs.declared.fault.NameFault.TheVariants.{Empty, LongLabel, LongName, BadByte, BadHyphen, BadPunycode, BadStar, BadAddress}
use Rattle.names_core.specs.declared.fault.NameRead.{NameRead}
use Rattle.names_core.specs.declared.fault.NameRead.TheVariants.{Fault, NoMemory}
use Rattle.names_core.specs.Label.{is_empty, is_too_long, has_bad_byte, has_bad_hyphen, has_bad_punycode, has_star}

abbrev pub is_full_stop : ℕ → Bool
is_full_stop byte = byte == 46

-- a wildcard name begins with an asterisk and a full stop (BR 2.1.5, section 1.6.1, "Wildcard Domain Name")
abbrev pub is_wild : List ℕ → Bool
is_wild text = starts_with nat_eq text (codes "*.")

abbrev pub without_star : List ℕ → List ℕ
without_star text = if is_wild text then drop 2 text else text

-- upper and lower case are one (RFC 4343), and lower case is kept
abbrev pub in_lower_case : List ℕ → List ℕ
in_lower_case label = map to_ascii_lowercase label

-- full stops stand between the labels (RFC 1034, section 3.1)
abbrev pub labels_of : List ℕ → List (List ℕ)
labels_of text = map in_lower_case (slice_split is_full_stop (without_star text))

-- the rule of each fault, of text of this length with these labels; a name has at most 253 bytes as text (RFC 1034, section
-- 3.1: 255 octets with those of lengths)
abbrev pub labels_break : NameFault → ℕ → List (List ℕ) → Bool
labels_break Empty len labels = list_any is_empty labels
labels_break LongLabel len labels = list_any is_too_long labels
labels_break LongName len labels = nat_lt 253 len
labels_break BadByte len labels = list_any has_bad_byte labels
labels_break BadHyphen len labels = list_any has_bad_hyphen labels
labels_break BadPunycode len labels = list_any has_bad_punycode labels
labels_break BadStar len labels = list_any has_star labels
labels_break BadAddress len labels = false

-- the text breaks the rule of the fault
abbrev pub breaks : NameFault → List ℕ → Bool
breaks fault text = labels_break fault (length text) (labels_of text)

-- the number of a fault
abbrev pub number_of : NameFault → ℕ
number_of Empty = 1
number_of LongLabel = 2
number_of LongName = 3
number_of BadByte = 4
number_of BadHyphen = 5
number_of BadPunycode = 6
number_of BadStar = 7
number_of BadAddress = 8

-- the faults by their numbers
abbrev pub faults : List NameFault
faults = Empty ∷ LongLabel ∷ LongName ∷ BadByte ∷ BadHyphen ∷ BadPunycode ∷ BadStar ∷ BadAddress ∷ []

-- the text breaks the rule of the fault, and none with a lesser number
pub record IsFaultOf (text : List ℕ) (fault : NameFault) : Type 0 where
  pub broken : IsTrue (breaks fault text)
  pub least : (other : NameFault) → number_of other < number_of fault → IsFalse (breaks other text)

-- the text breaks no rule, and the name has its labels
pub record IsNameOf (text : List ℕ) (name : Name) : Type 0 where
  pub kept : (fault : NameFault) → IsFalse (breaks fault text)
  pub labels : name.labels ≡ labels_of text
  pub wild : name.wild ≡ is_wild text

-- the first fault among those whose rules are broken
abbrev pub first_broken : ℕ → List (List ℕ) → Option NameFault
first_broken len labels = find (λ fault. labels_break fault len labels) faults

abbrev pub first_fault : List ℕ → Option NameFault
first_fault text = first_broken (length text) (labels_of text)

abbrev pub name_of : List ℕ → Name
name_of text = record { labels = labels_of text; wild = is_wild text }

abbrev pub unless : {T : Type 0} → Option NameFault → T → Result T NameFault
unless None value = Ok value
unless (Some fault) value = Err fault

-- the name that a text is read to, or its first fault
abbrev pub name_read : List ℕ → Result Name NameFault
name_read text = unless (first_fault text) (name_of text)

-- an error is this one, or out of memory
abbrev pub Tells : {T : Type 0} → NameRead → Result T NameFault → Type 0
Tells (Fault fault) read = read ≡ Err fault
Tells NoMemory read = Unit {0}

-- a result is what reading gives, unless memory ran out
abbrev pub Gives : {T : Type 0} → Result T NameRead → Result T NameFault → Type 0
Gives (Ok value) read = read ≡ Ok value
Gives (Err error) read = Tells error read
