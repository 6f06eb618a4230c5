-- What is read as an entry is spelled so, what is spelled so is read again, and no two entries have one spelling.
use Rattle.std.proofs.Common.{◌≡◌, ℕ, ◌^◌, ◌<◌, ◌≤◌, Bool, true, false, cond, eqb, ltb, List, [], ◌∷◌, ◌++◌, length, Result, Ok, Err, refl, sym, ap, subst, ◌∙◌, append-nil}
use Rattle.std.specs.Int.{w16, w64, to_be_bytes}
use Rattle.std.proofs.lemmas.Bool.{eqb-true, ltb-false, le-ltb}
use Rattle.std.proofs.lemmas.List.{nil_from_length}
use Rattle.gate_entries.specs.declared.entry.Entry.{Entry}
use Rattle.gate_entries.specs.declared.entry.What.{What}
use Rattle.gate_entries.specs.declared.entry.What.TheVariants as whats
use Rattle.gate_entries.specs.declared.kind.Kind.{Kind}
use Rattle.gate_entries.specs.declared.kind.Kind.TheVariants.{Settings, Order, Challenge, Observation, CaaAnswer, Send, Signed, Blocked}
use Rattle.gate_entries.specs.Field.{counted, ◌>>=◌}
use Rattle.gate_entries.specs.Kind.{kind_number, kind_of}
use Rattle.gate_entries.specs.Spelling.{what_bytes, entry_bytes, IsWhat, HasCaller, most_bytes, IsEntry}
use Rattle.gate_entries.specs.Reading.{what_at, is_caller_of, caller_behind, caller_at, fields_at, with_no_rest, whole_entry}
use Rattle.gate_entries.proofs.Fields.{IsBytes, bind_ok, guard_met, ok_is, as_made, Takes, takes_both, counted16_field, number64_field, step, step_again, IsField}
use Rattle.gate_entries.proofs.KindFields.{TakesWhat, kind_field}
use Rattle.gate_entries.proofs.Pieces.{five_behind}
use Rattle.gate_entries.proofs.Targets.{only_met}
use Rattle.gate_entries.proofs.OrderEntry.{order_takes, order_again}
use Rattle.gate_entries.proofs.ChallengeEntry.{challenge_takes, challenge_again}
use Rattle.gate_entries.proofs.ObservationEntry.{observation_takes, observation_again}
use Rattle.gate_entries.proofs.CaaEntry.{caa_takes, caa_again}
use Rattle.gate_entries.proofs.SmallEntries.{settings_take, settings_again, send_takes, send_again, signed_takes, signed_again, blocked_takes, blocked_again}

-- ---- what an entry says

what_takes : (kind : Kind) (bytes : List ℕ) (x : What × List ℕ) → IsBytes bytes → what_at kind bytes ≡ Ok x → TakesWhat kind bytes x
unfolding what_at
what_takes Settings bytes x small e = settings_take bytes x small e
what_takes Order bytes x small e = order_takes bytes x small e
what_takes Challenge bytes x small e = challenge_takes bytes x small e
what_takes Observation bytes x small e = observation_takes bytes x small e
what_takes CaaAnswer bytes x small e = caa_takes bytes x small e
what_takes Send bytes x small e = send_takes bytes x small e
what_takes Signed bytes x small e = signed_takes bytes x small e
what_takes Blocked bytes x small e = blocked_takes bytes x small e

what_again : (what : What) (rest : List ℕ) → IsWhat what → what_at (kind_of what) (what_bytes what ++ rest) ≡ Ok (what, rest)
unfolding what_at
what_again (whats.Settings bytes) rest is = settings_again bytes rest is
what_again (whats.Order key common days targets request) rest is = order_again key common days targets request rest is
what_again (whats.Challenge key order method target value thumb) rest is = challenge_again key order method target value thumb rest is
what_again (whats.Observation key challenge moment seen) rest is = observation_again key challenge moment seen rest is
what_again (whats.CaaAnswer key order target moment answers) rest is = caa_again key order target moment answers rest is
what_again (whats.Send order body) rest is = send_again order body rest is
what_again (whats.Signed order signature) rest is = signed_again order signature rest is
what_again (whats.Blocked key spki) rest is = blocked_again key spki rest is

-- ---- the caller

has_caller : (kind : Kind) (caller : List ℕ) → is_caller_of kind caller ≡ true → HasCaller caller kind
has_caller Settings caller is = nil_from_length caller (eqb-true _ _ is)
has_caller Order caller is = tt
has_caller Challenge caller is = tt
has_caller Observation caller is = tt
has_caller CaaAnswer caller is = tt
has_caller Send caller is = tt
has_caller Signed caller is = tt
has_caller Blocked caller is = tt

may_be_caller : (kind : Kind) (caller : List ℕ) → HasCaller caller kind → is_caller_of kind caller ≡ true
may_be_caller Settings caller is = rw is refl
may_be_caller Order caller is = refl
may_be_caller Challenge caller is = refl
may_be_caller Observation caller is = refl
may_be_caller CaaAnswer caller is = refl
may_be_caller Send caller is = refl
may_be_caller Signed caller is = refl
may_be_caller Blocked caller is = refl

abbrev IsCallerOf : Kind → List ℕ → Type 0
IsCallerOf kind caller = (length caller < 2 ^ 16) × HasCaller caller kind

caller_takes : (kind : Kind) (bytes : List ℕ) (x : List ℕ × List ℕ) → IsBytes bytes → caller_at kind bytes ≡ Ok x
    → Takes bytes (counted w16 x.0) x.1 × IsCallerOf kind x.0
unfolding caller_at
caller_takes kind bytes x small e =
    let caller = step counted16_field bytes (caller_behind kind (length bytes)) x small e in
    let met = only_met (is_caller_of kind caller.found.0) (length bytes) (Ok caller.found) x caller.goes_on in
    as_made (λ (y : List ℕ × List ℕ). Takes bytes (counted w16 y.0) y.1 × IsCallerOf kind y.0) caller.found x met.1
    (caller.takes, (caller.is, has_caller kind caller.found.0 met.0))

caller_again : (kind : Kind) (caller rest : List ℕ) → IsCallerOf kind caller → caller_at kind (counted w16 caller ++ rest) ≡ Ok (caller, rest)
unfolding caller_at
caller_again kind caller rest is =
    step_again counted16_field caller rest (caller_behind kind (length (counted w16 caller ++ rest))) (Ok (caller, rest)) is.0
    (rw (may_be_caller kind caller is.1) refl)

caller_field : (kind : Kind) → IsField (counted w16) (IsCallerOf kind) (caller_at kind)
caller_field kind = record { takes = caller_takes kind; again = caller_again kind }

-- ---- the whole entry

-- an entry's facts but for its size
record AreFields (entry : Entry) : Type 0 where
  number : entry.number < 2 ^ 64
  moment : entry.moment.0 < 2 ^ 64
  caller : length entry.caller < 2 ^ 16
  from : HasCaller entry.caller (kind_of entry.what)
  what : IsWhat entry.what

fields_take : (bytes : List ℕ) (x : Entry × List ℕ) → IsBytes bytes → fields_at bytes ≡ Ok x → Takes bytes (entry_bytes x.0) x.1 × AreFields x.0
unfolding fields_at entry_bytes
fields_take bytes x small e =
    let kind = step kind_field bytes _ x small e in
    let number = step number64_field kind.found.1 _ x kind.takes.small kind.goes_on in
    let moment = step number64_field number.found.1 _ x number.takes.small number.goes_on in
    let caller = step (caller_field kind.found.0) moment.found.1 _ x moment.takes.small moment.goes_on in
    let what = bind_ok (what_at kind.found.0 caller.found.1) _ x caller.goes_on in
    let of_what = what_takes kind.found.0 caller.found.1 what.0 caller.takes.small what.1 in
    let of_kind : Takes bytes (kind_number (kind_of what.0.0) ∷ []) kind.found.1 = subst (λ (k : Kind). Takes bytes (kind_number k ∷ []) kind.found.1) (sym of_what.2) kind.takes in
    let from : HasCaller caller.found.0 (kind_of what.0.0) = subst (λ (k : Kind). HasCaller caller.found.0 k) (sym of_what.2) caller.is.1 in
    let whole = takes_both (takes_both (takes_both (takes_both of_kind number.takes) moment.takes) caller.takes) of_what.0 in
    let made : Entry × List ℕ = (record { number = number.found.0; moment = record { 0 = moment.found.0 }; caller = caller.found.0; what = what.0.0 }, what.0.1) in
    as_made (λ (y : Entry × List ℕ). Takes bytes (entry_bytes y.0) y.1 × AreFields y.0) made x what.2
    (whole, record { number = number.is; moment = moment.is; caller = caller.is.0; from = from; what = of_what.1 })

fields_again : (entry : Entry) → IsEntry entry → fields_at (entry_bytes entry) ≡ Ok (entry, [])
unfolding fields_at entry_bytes
fields_again entry is =
    let whole : Result (Entry × List ℕ) ℕ = Ok (entry, []) in
    let kind = kind_of entry.what in
    let r4 = what_bytes entry.what ++ [] in
    let r3 = counted w16 entry.caller ++ r4 in
    let r2 = to_be_bytes w64 entry.moment.0 ++ r3 in
    let r1 = to_be_bytes w64 entry.number ++ r2 in
    let regrouped : entry_bytes entry ≡ (kind_number kind ∷ []) ++ r1 = sym (append-nil (entry_bytes entry))
    ∙ five_behind (kind_number kind ∷ []) (to_be_bytes w64 entry.number) (to_be_bytes w64 entry.moment.0) (counted w16 entry.caller) (what_bytes entry.what) [] in
    ap fields_at regrouped
    ∙ step_again kind_field kind r1 _ whole tt
    (step_again number64_field entry.number r2 _ whole is.number
    (step_again number64_field entry.moment.0 r3 _ whole is.moment
    (step_again (caller_field kind) entry.caller r4 _ whole (is.caller, is.from)
    (rw (what_again entry.what [] is.what) refl))))

only_fits : {A : Type 0} (b : Bool) (left : ℕ) (r : Result A ℕ) (y : A) → cond b (Err left) r ≡ Ok y → (b ≡ false) × (r ≡ Ok y)
only_fits true left r y e = absurd cc
only_fits false left r y e = (refl, e)

pub entry_found : (bytes : List ℕ) (entry : Entry) → IsBytes bytes → whole_entry bytes ≡ Ok entry → IsEntry entry × (bytes ≡ entry_bytes entry)
unfolding whole_entry
entry_found bytes entry small e =
    let g = only_fits (ltb most_bytes (length bytes)) (length bytes) (fields_at bytes >>= with_no_rest) entry e in
    let fits : length bytes ≤ most_bytes = ltb-false _ _ g.0 in
    let read = bind_ok (fields_at bytes) with_no_rest entry g.1 in
    let no_rest = guard_met (eqb (length read.0.1) 0) (length read.0.1) read.0.0 entry read.2 in
    let takes = fields_take bytes read.0 small read.1 in
    let nothing : read.0.1 ≡ [] = nil_from_length read.0.1 (eqb-true _ _ no_rest.0) in
    let spelled : bytes ≡ entry_bytes read.0.0 = takes.0.parts ∙ ap (λ (r : List ℕ). entry_bytes read.0.0 ++ r) nothing ∙ append-nil (entry_bytes read.0.0) in
    let is : IsEntry read.0.0 = record {
      number = takes.1.number;
      moment = takes.1.moment;
      caller = takes.1.caller;
      from = takes.1.from;
      what = takes.1.what;
      size = subst (λ (b : List ℕ). length b ≤ most_bytes) spelled fits;
    } in
    subst (λ (y : Entry). IsEntry y × (bytes ≡ entry_bytes y)) no_rest.1 (is, spelled)

pub entry_again : (entry : Entry) → IsEntry entry → whole_entry (entry_bytes entry) ≡ Ok entry
unfolding whole_entry
entry_again entry is =
    let fits : ltb most_bytes (length (entry_bytes entry)) ≡ false = le-ltb _ _ is.size in
    rw (fits, fields_again entry is) refl

pub one_entry : (left right : Entry) → IsEntry left → IsEntry right → entry_bytes left ≡ entry_bytes right → left ≡ right
one_entry left right is1 is2 same = ok_is left right (sym (entry_again left is1) ∙ ap whole_entry same ∙ entry_again right is2)
