-- What is known of a text where a name is read from it, and where a fault is told.
use Rattle.std.proofs.Common.{◌≡◌, ℕ, ◌<◌, ◌≤◌, ◌⊎◌, Bool, true, false, cond, nat_lt, List, [], ◌∷◌, length, Option, Some, None, Result, Ok, Err, IfOk, refl, sym, subst, ◌∙◌, inl, inr, lit≤, arith}
use Rattle.std.specs.List.{find, AllByRecursion}
use Rattle.std.proofs.lemmas.Bool.{cases_Bool, cond-true, cond-false, ltb-false}
use Rattle.std.proofs.lemmas.Option.{none-some, same_Some}
use Rattle.gate_base.specs.declared.name.Name.{Name}
use Rattle.names_core.specs.declared.fault.NameRead.{NameRead}
use Rattle.names_core.specs.declared.fault.NameRead.TheVariants.{Fault, NoMemory}
use Rattle.names_core.specs.declared.fault.NameFault.{NameFault}
use Rattle.names_core.specs.declared.fault.NameFault.TheVariants.{Empty, LongLabel, LongName, BadByte, BadHyphen, BadPunycode, BadStar, BadAddress}
use Rattle.names_core.specs.Name.{labels_break, labels_of, breaks, number_of, faults, first_fault, IsFaultOf, IsNameOf, name_of, unless, name_read, Gives}

fails_all : (test : NameFault → Bool) (list : List NameFault) → find test list ≡ None → AllByRecursion (λ fault. test fault ≡ false) list
fails_all test [] none = tt
fails_all test (fault ∷ list) none =
    elim (cases_Bool (test fault)) [
      | inl broken ↦ absurd (none-some fault (sym none ∙ cond-true _ (Some fault) (find test list) broken))
      | inr kept ↦ (kept, fails_all test list (sym (cond-false _ (Some fault) (find test list) kept) ∙ none))
    ]

at_each : (P : NameFault → Type 0) → AllByRecursion P faults → (fault : NameFault) → P fault
at_each P all Empty = all.0
at_each P all LongLabel = all.1.0
at_each P all LongName = all.1.1.0
at_each P all BadByte = all.1.1.1.0
at_each P all BadHyphen = all.1.1.1.1.0
at_each P all BadPunycode = all.1.1.1.1.1.0
at_each P all BadStar = all.1.1.1.1.1.1.0
at_each P all BadAddress = all.1.1.1.1.1.1.1.0

abbrev IsRising : List NameFault → Type 0
IsRising [] = Unit {0}
IsRising (fault ∷ list) = AllByRecursion (λ other. number_of fault ≤ number_of other) list × IsRising list

faults_rise : IsRising faults
faults_rise = ((lit≤ tt, (lit≤ tt, (lit≤ tt, (lit≤ tt, (lit≤ tt, (lit≤ tt, (lit≤ tt, tt))))))), ((lit≤ tt, (lit≤ tt, (lit≤ tt, (lit≤ tt, (lit≤ tt, (lit≤ tt, tt)))))), ((lit≤ tt, (lit≤ tt, (lit≤ tt, (lit≤ tt, (lit≤ tt, tt))))), ((lit≤ tt, (lit≤ tt, (lit≤ tt, (lit≤ tt, tt)))), ((lit≤ tt, (lit≤ tt, (lit≤ tt, tt))), ((lit≤ tt, (lit≤ tt, tt)), ((lit≤ tt, tt), (tt, tt))))))))

-- a fault whose rule is kept, or that does not come before
abbrev FailsBefore : (NameFault → Bool) → NameFault → NameFault → Type 0
FailsBefore test fault other = (test other ≡ false) ⊎ (number_of fault ≤ number_of other)

all_after : (test : NameFault → Bool) (fault : NameFault) (list : List NameFault) → AllByRecursion (λ other. number_of fault ≤ number_of other) list → AllByRecursion (FailsBefore test fault) list
all_after test fault [] after = tt
all_after test fault (other ∷ list) after = (inr after.0, all_after test fault list after.1)

record IsFirst (test : NameFault → Bool) (list : List NameFault) (fault : NameFault) : Type 0 where
  passes : test fault ≡ true
  before : AllByRecursion (FailsBefore test fault) list

is_first : (test : NameFault → Bool) (list : List NameFault) (fault : NameFault) → IsRising list → find test list ≡ Some fault → IsFirst test list fault
is_first test [] fault rising found = absurd (none-some fault found)
is_first test (other ∷ list) fault rising found =
    elim (cases_Bool (test other)) [
      | inl broken ↦
          let same : other ≡ fault = same_Some other fault (sym (cond-true _ (Some other) (find test list) broken) ∙ found) in
          subst (IsFirst test (other ∷ list)) same (record { passes = broken; before = (inr (omega arith), all_after test other list rising.0) })
      | inr kept ↦
          let later = is_first test list fault rising.1 (sym (cond-false _ (Some other) (find test list) kept) ∙ found) in
          record { passes = later.passes; before = (inl kept, later.before) }
    ]

fails_earlier : (test : NameFault → Bool) (fault other : NameFault) → FailsBefore test fault other → number_of other < number_of fault → test other ≡ false
fails_earlier test fault other (inl kept) below = kept
fails_earlier test fault other (inr le) below = absurd (omega arith)

IsFaultOf-first_fault : (text : List ℕ) (fault : NameFault) → first_fault text ≡ Some fault → IsFaultOf text fault
IsFaultOf-first_fault text fault found =
    let test : NameFault → Bool = λ fault. breaks fault text in
    let first = is_first test faults fault faults_rise found in
    record {
      broken = first.passes;
      least = λ other below. fails_earlier test fault other (at_each (FailsBefore test fault) first.before other) below;
    }

IsNameOf-first_fault : (text : List ℕ) → first_fault text ≡ None → IsNameOf text (name_of text)
IsNameOf-first_fault text none = record {
  kept = at_each (λ fault. breaks fault text ≡ false) (fails_all (λ fault. breaks fault text) faults none);
  labels = refl;
  wild = refl;
}

-- what reading gave, by the text's first fault
data Outcome (text : List ℕ) (read : Result Name NameFault) : Type 0 where
  name : first_fault text ≡ None → read ≡ Ok (name_of text) → Outcome text read
  fault : (which : NameFault) → first_fault text ≡ Some which → read ≡ Err which → Outcome text read

outcome_by : (text : List ℕ) (found : Option NameFault) → first_fault text ≡ found → Outcome text (unless found (name_of text))
outcome_by text None is = name is refl
outcome_by text (Some which) is = fault which is refl

outcome : (text : List ℕ) → Outcome text (name_read text)
outcome text = outcome_by text (first_fault text) refl

IsNameOf-by : (text : List ℕ) (value : Name) (read : Result Name NameFault) → Outcome text read → read ≡ Ok value → IsNameOf text value
IsNameOf-by text value read (name none is) ok =
    let same : name_of text ≡ value = cc in
    subst (IsNameOf text) same (IsNameOf-first_fault text none)
IsNameOf-by text value read (fault which found is) ok = absurd (cc)

pub IsNameOf-read : (text : List ℕ) (value : Name) → name_read text ≡ Ok value → IsNameOf text value
IsNameOf-read text value ok = IsNameOf-by text value (name_read text) (outcome text) ok

IsFaultOf-by : (text : List ℕ) (value : NameFault) (read : Result Name NameFault) → Outcome text read → read ≡ Err value → IsFaultOf text value
IsFaultOf-by text value read (name none is) err = absurd (cc)
IsFaultOf-by text value read (fault which found is) err =
    let same : which ≡ value = cc in
    subst (IsFaultOf text) same (IsFaultOf-first_fault text which found)

pub IsFaultOf-read : (text : List ℕ) (value : NameFault) → name_read text ≡ Err value → IsFaultOf text value
IsFaultOf-read text value err = IsFaultOf-by text value (name_read text) (outcome text) err

pub IsNameOf-Gives : (text : List ℕ) (result : Result Name NameRead) → Gives result (name_read text) → IfOk result (λ value. IsNameOf text value)
IsNameOf-Gives text (Ok value) gives = IsNameOf-read text value gives
IsNameOf-Gives text (Err error) gives = tt

told : (text : List ℕ) (error : NameRead) (value : NameFault) → Gives {T = Name} (Err error) (name_read text) → error ≡ Fault value → IsFaultOf text value
told text (Fault which) value gives same = IsFaultOf-read text value (gives ∙ cc)
told text NoMemory value gives same = absurd (cc)

pub IsFaultOf-Gives : (text : List ℕ) (result : Result Name NameRead) → Gives result (name_read text) → (value : NameFault) → result ≡ Err (Fault value) → IsFaultOf text value
IsFaultOf-Gives text (Ok read) gives value same = absurd (cc)
IsFaultOf-Gives text (Err error) gives value same = told text error value gives (cc)

-- where a value is read, the third of the rules is kept
third_kept : (a b c : Bool) (x y z : NameFault) (rest : Option NameFault) (value read : Name)
    → unless (cond a (Some x) (cond b (Some y) (cond c (Some z) rest))) value ≡ Ok read → c ≡ false
third_kept true b c x y z rest value read is = absurd cc
third_kept false true c x y z rest value read is = absurd cc
third_kept false false true x y z rest value read is = absurd cc
third_kept false false false x y z rest value read is = refl

-- no name is read from a text that is too long
pub read_size : (text : List ℕ) (value : Name) → name_read text ≡ Ok value → length text ≤ 253
read_size text value is =
    let long = third_kept (labels_break Empty (length text) (labels_of text)) (labels_break LongLabel (length text) (labels_of text)) (nat_lt 253 (length text)) Empty LongLabel LongName _ (name_of text) value is in
    ltb-false 253 (length text) long
