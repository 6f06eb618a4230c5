-- What a start tells of the bytes.
use Rattle.std.proofs.Common.{Result, Ok, ◌≡◌, ◌≢◌, ◌≤◌, ℕ, List, [], ◌∷◌, ◌++◌, length, get_or, drop, Err, ap, sym, arith, inl, inr, refl, subst}
use Rattle.std.specs.Prelude.{IsErrOf, IfErr}
use Rattle.journal_core.specs.declared.fault.MountFault.{MountFault}
use Rattle.journal_core.specs.declared.fault.MountFault.TheVariants as mounts
use Rattle.journal_core.specs.Mounting.{Refuses}
use Rattle.gate_engine.specs.declared.fault.StartFault.{StartFault}
use Rattle.gate_engine.specs.declared.fault.StartFault.TheVariants as starts
use Rattle.gate_entries.specs.declared.entry.Entry.{Entry}
use Rattle.gate_entries.specs.Spelling.{entry_bytes}
use Rattle.gate_machine.specs.History.{payloads_of, journal_place, Follows, EachFollows}
use Rattle.gate_engine.specs.Engine.{StraysAt, IsStartFault, RefusesOpen, IsBadAt}

pub refuses : (fault : MountFault) (answer : StartFault) (bytes : List ℕ) → IsStartFault fault answer → Refuses fault bytes → RefusesOpen answer bytes
refuses mounts.NotBegun answer bytes is refused = rw is refused
refuses (mounts.BadHead at) answer bytes is refused = rw is (inr (inl (record { fits = refused.0; breaks = refused.1 })))
refuses (mounts.TooLong count) answer bytes is refused = rw is (inl (record { begun = refused.0; long = refused.2; place = refl }))
refuses mounts.Disk answer bytes is refused = rw is tt
refuses mounts.NoMemory answer bytes is refused = rw is refused

pub bad : (fault : StartFault) (at : ℕ) (bytes : List ℕ) → fault ≡ starts.JournalBad at → RefusesOpen fault bytes → IsBadAt bytes at
bad fault at bytes is refused = subst (λ (f : StartFault). RefusesOpen f bytes) is refused

-- a payload that is no entry which may come behind those before it
pub strays : (payloads : List (List ℕ)) (history : List Entry) (payload : List ℕ) (rest : List (List ℕ)) (at : ℕ) → payloads ≡ payloads_of history ++ payload ∷ rest
    → EachFollows [] history → at ≡ journal_place history → ((entry : Entry) → Follows history entry → payload ≢ entry_bytes entry) → StraysAt payloads at
strays payloads history payload rest at split each place stray = record {
  before = history;
  payload = payload;
  rest = rest;
  split = split;
  each = each;
  place = place;
  stray = stray;
}

-- an error is the same whatever would have been given without it
pub same_fault : {A E : Type 0} (x y : E) → IsErrOf {T = A} (Err x) y → x ≡ y
same_fault x y is = cc is

pub as_fault : {A E : Type 0} (x y : E) → x ≡ y → IsErrOf {T = A} (Err x) y
as_fault x y is = ap Err is

pub first_of : (items : List (List ℕ)) (x other : List ℕ) → x ≡ get_or items 0 other → 1 ≤ length items → items ≡ x ∷ drop 1 items
first_of [] x other is some = absurd (omega (arith, some))
first_of (first ∷ items) x other is some = ap (λ (f : List ℕ). f ∷ items) (sym is)

-- what is said of a fault says more
pub if_err_weaker : {A E : Type 0} (result : Result A E) (P Q : E → Type 0) → ((fault : E) → P fault → Q fault) → IfErr result P → IfErr result Q
if_err_weaker (Ok x) P Q more is = tt
if_err_weaker (Err fault) P Q more is = more fault is
