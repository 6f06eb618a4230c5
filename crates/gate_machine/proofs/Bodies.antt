-- The serial number that stands in a small body, and the names that it has room for.
use Rattle.std.proofs.Common.{◌≡◌, ℕ, ◌+◌, ◌<◌, ◌≤◌, ◌^◌, ◌/◌, ◌%◌, Bool, true, false, List, [], ◌∷◌, ◌++◌, length, take, drop, Option, Some, Ok, refl, sym, ap, ◌∙◌, inl, inr, arith, append_assoc, length-append}
use Rattle.std.specs.Prelude.{nat_lt, if◌then◌else◌}
use Rattle.std.specs.List.{AllByRecursion}
use Rattle.std.proofs.lemmas.Bool.{cases_lt, lt-ltb, le-ltb, ltb-false}
use Rattle.std.proofs.lemmas.List.{take_at, drop_at}
use Rattle.gate_base.specs.declared.name.Address.TheVariants.{V4, V6}
use Rattle.gate_base.specs.declared.name.Name.{Name}
use Rattle.gate_base.specs.declared.name.Target.{Target}
use Rattle.gate_base.specs.declared.name.Target.TheVariants.{Dns, Ip}
use Rattle.der_text.specs.Tree.{length_octets, element, spellings}
use Rattle.names_core.specs.declared.fault.NameFault.{NameFault}
use Rattle.names_core.specs.declared.fault.NameFault.TheVariants.{Empty, LongLabel, LongName}
use Rattle.names_core.specs.Name.{labels_break, labels_of, name_of, name_read, unless}
use Rattle.names_core.specs.Target.{name_text}
use Rattle.tbs_build.specs.Small.{general_names, IsShort}
use Rattle.gate_entries.specs.Target.{IsTarget}
use Rattle.gate_machine.specs.Sends.{more_octets, serial_in, small_bytes}

-- ---- the serial number

-- sixteen bytes behind so many others
sixteen_at : (front serial rest : List ℕ) (count : ℕ) → length front ≡ count → length serial ≡ 16 → take 16 (drop count (front ++ (serial ++ rest))) ≡ serial
sixteen_at front serial rest count at size = rw (drop_at front (serial ++ rest) count at) (take_at serial rest 16 size)

-- behind the head of the SEQUENCE stand the head of the INTEGER, which has two bytes, and the serial number
behind_head : (tag first : ℕ) (octets serial rest : List ℕ) → length octets ≡ more_octets first → length serial ≡ 16
    → serial_in (tag ∷ first ∷ octets ++ (2 ∷ 16 ∷ serial ++ rest)) ≡ serial
behind_head tag first octets serial rest more size =
    let front = octets ++ (2 ∷ 16 ∷ []) in
    let regrouped : octets ++ (2 ∷ 16 ∷ serial ++ rest) ≡ front ++ (serial ++ rest) = sym (append_assoc octets (2 ∷ 16 ∷ []) (serial ++ rest)) in
    let count : length front ≡ 2 + more_octets first = omega (arith, length-append octets (2 ∷ 16 ∷ []), more) in
    ap (λ (bytes : List ℕ). take 16 (drop (2 + more_octets first) bytes)) regrouped ∙ sixteen_at front serial rest (2 + more_octets first) count size

-- the head of a SEQUENCE, by the length of its content
in_sequence : (n : ℕ) (serial rest : List ℕ) → n < 2 ^ 16 → length serial ≡ 16 → serial_in (48 ∷ length_octets n ++ (2 ∷ 16 ∷ serial ++ rest)) ≡ serial
unfolding length_octets
in_sequence n serial rest low size =
    elim (cases_lt n 128) [
      | inl a ↦ rw (lt-ltb n 128 a) (behind_head 48 n [] serial rest (rw (lt-ltb n 128 a) refl) size)
      | inr a ↦ elim (cases_lt n 256) [
        | inl b ↦ rw (le-ltb n 128 a, lt-ltb n 256 b) (behind_head 48 129 (n ∷ []) serial rest refl size)
        | inr b ↦ rw (le-ltb n 128 a, le-ltb n 256 b, lt-ltb n 65536 low) (behind_head 48 130 (n / 2 ^ 8 ∷ n % 2 ^ 8 ∷ []) serial rest refl size)
      ]
    ]

integer_head : (serial : List ℕ) → length serial ≡ 16 → element 2 serial ≡ 2 ∷ 16 ∷ serial
unfolding length_octets
integer_head serial size = rw size refl

pub serial_of_small : (serial : List ℕ) (targets : List Target) → length serial ≡ 16 → length (small_bytes serial targets) < 2 ^ 16
    → serial_in (small_bytes serial targets) ≡ serial
serial_of_small serial targets size few =
    let rest = element 48 (spellings (general_names targets)) ++ [] in
    let content : element 2 serial ++ rest ≡ 2 ∷ 16 ∷ serial ++ rest = ap (λ (head : List ℕ). head ++ rest) (integer_head serial size) in
    let whole : small_bytes serial targets ≡ element 48 (2 ∷ 16 ∷ serial ++ rest) = ap (element 48) content in
    let short : length (2 ∷ 16 ∷ serial ++ rest) < 2 ^ 16 =
    omega (arith, few, ap length whole, length-append (length_octets (length (2 ∷ 16 ∷ serial ++ rest))) (2 ∷ 16 ∷ serial ++ rest)) in
    ap serial_in whole ∙ in_sequence (length (2 ∷ 16 ∷ serial ++ rest)) serial rest short size

-- ---- names

-- where a name is read, the third of the rules is kept
third_kept : (a b c : Bool) (x y z : NameFault) (rest : Option NameFault) (value read : Name)
    → unless (if a then Some x else (if b then Some y else (if c then Some z else rest))) value ≡ Ok read → c ≡ false
third_kept true b c x y z rest value read is = absurd cc
third_kept false true c x y z rest value read is = absurd cc
third_kept false false true x y z rest value read is = absurd cc
third_kept false false false x y z rest value read is = refl

-- no name is read from a text that is too long
read_short : (text : List ℕ) (name : Name) → name_read text ≡ Ok name → length text ≤ 253
read_short text name is =
    let labels = labels_of text in
    let kept = third_kept (labels_break Empty (length text) labels) (labels_break LongLabel (length text) labels) (nat_lt 253 (length text)) Empty LongLabel LongName _ (name_of text) name is in
    ltb-false 253 (length text) kept

short : (target : Target) → IsTarget target → IsShort target
short (Dns name) is = read_short (name_text name) name is
short (Ip (V4 octets)) is = omega (arith, is)
short (Ip (V6 octets)) is = omega (arith, is)

pub all_short : (targets : List Target) → AllByRecursion IsTarget targets → AllByRecursion IsShort targets
all_short [] are = tt
all_short (target ∷ targets) are = (short target are.0, all_short targets are.1)
