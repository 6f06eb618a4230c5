-- Histories that grow at their end.
use Rattle.std.proofs.Common.{true, ◌≡◌, ◌≢◌, ℕ, ◌+◌, ◌-◌, ◌<◌, ◌≤◌, List, [], ◌∷◌, ◌++◌, length, refl, sym, ap, subst, arith, append_assoc, append-nil, length-append}
use Rattle.std.proofs.Math.Seq.{get_or-append_seam}
use Rattle.std.proofs.lemmas.Option.{slice_get-get_or}
use Rattle.gate_entries.specs.declared.caller.Caller.{Caller}
use Rattle.gate_entries.specs.declared.entry.Entry.{Entry}
use Rattle.gate_entries.specs.declared.entry.What.{What}
use Rattle.gate_entries.specs.Spelling.{IsEntry}
use Rattle.gate_machine.specs.declared.place.Place.{Place}
use Rattle.gate_machine.specs.Sight.{moment_of, place_of, entry_at}
use Rattle.gate_machine.specs.History.{last_moment, IsSignature, IsNextPlace, MeetsRow, Follows, EachFollows, Legal}
use Rattle.gate_machine.specs.Sends.{is_send_for, order_in, signed_entry}
use Rattle.gate_machine.specs.Answer.{IsInRange}

-- the last entry of a history that has one more
pub moment_of-push : (history : List Entry) (entry : Entry) → moment_of (history ++ entry ∷ []) ≡ entry.moment.0
moment_of-push history entry =
    let size : length (history ++ entry ∷ []) ≡ length history + 1 = length-append history (entry ∷ []) in
    let at : length (history ++ entry ∷ []) - 1 ≡ length history = omega arith in
    let within : length history < length (history ++ entry ∷ []) = omega arith in
    rw (at, slice_get-get_or (history ++ entry ∷ []) (length history) entry within, get_or-append_seam history entry [] entry) refl

pub EachFollows-push : (before entries : List Entry) (entry : Entry) → EachFollows before entries → Follows (before ++ entries) entry
    → EachFollows before (entries ++ entry ∷ [])
EachFollows-push before [] entry each follows = (subst (λ (b : List Entry). Follows b entry) (append-nil before) follows, tt)
EachFollows-push before (first ∷ entries) entry each follows = (
  each.0,
  EachFollows-push (before ++ first ∷ []) entries entry each.1
      (subst (λ (b : List Entry). Follows b entry) (sym (append_assoc before (first ∷ []) entries)) follows),
)

pub some-push : (history : List Entry) (entry : Entry) → history ++ entry ∷ [] ≡ [] → ⊥
some-push history entry none = let same = ap length none in omega (arith, same, length-append history (entry ∷ []))

pub Legal-push : (history : List Entry) (entry : Entry) → EachFollows [] history → Follows history entry → Legal (history ++ entry ∷ [])
Legal-push history entry each follows = record {
  some = some-push history entry;
  each = EachFollows-push [] history entry each follows;
}

each_ended : (before entries : List Entry) → EachFollows before entries → moment_of before ≤ last_moment → moment_of (before ++ entries) ≤ last_moment
each_ended before [] each ended = subst (λ (b : List Entry). moment_of b ≤ last_moment) (sym (append-nil before)) ended
each_ended before (entry ∷ entries) each ended =
    let first : moment_of (before ++ entry ∷ []) ≤ last_moment = subst (λ (m : ℕ). m ≤ last_moment) (sym (moment_of-push before entry)) each.0.in_order.ended in
    subst (λ (b : List Entry). moment_of b ≤ last_moment) (append_assoc before (entry ∷ []) entries) (each_ended (before ++ entry ∷ []) entries each.1 first)

-- behind a legal history, at a reading in range
pub next_place : (history : List Entry) (reading : ℕ) (place : Place) → Legal history → IsInRange reading → place ≡ place_of history reading → IsNextPlace history place
next_place history reading place legal in_range is =
    let ended : moment_of history ≤ last_moment = each_ended [] history legal.each (omega arith) in
    subst (λ (p : Place). IsNextPlace history p) (sym is) (record {
      numbered = refl;
      later = omega arith;
      begun = omega (arith, in_range.begun);
      ended = omega (arith, in_range.ended, ended);
    })

-- what meets its row may come behind, at that place
pub comes_at : (history : List Entry) (place : Place) (caller : Caller) (what : What) (entry : Entry) → IsNextPlace history place → MeetsRow history caller.id place.moment what
    → IsEntry entry → entry ≡ entry_at place caller what → Follows history entry
comes_at history place caller what entry next row spelled is =
    subst (λ (e : Entry). Follows history e) (sym is) (record {
      spelled = subst IsEntry is spelled;
      in_order = record { numbered = next.numbered; later = next.later; begun = next.begun; ended = next.ended };
      row = row;
    })

-- a front of entries that each may come behind those before it
pub each_front : (before front rest : List Entry) → EachFollows before (front ++ rest) → EachFollows before front
each_front before [] rest each = tt
each_front before (entry ∷ front) rest each = (each.0, each_front (before ++ entry ∷ []) front rest each.1)

pub legal_front : (front rest : List Entry) → Legal (front ++ rest) → front ≢ [] → Legal front
legal_front front rest legal some = record { some = some; each = each_front [] front rest legal.each }

-- a signature may come directly behind what was sent
pub signature_follows : (before : List Entry) (entry : Entry) (signature : List ℕ) → Legal before → Follows before entry
    → is_send_for (order_in entry.what) entry.what ≡ true → IsSignature signature → IsEntry (signed_entry entry signature)
    → Follows (before ++ entry ∷ []) (signed_entry entry signature)
signature_follows before entry signature legal follows sends size spelled =
    let count : length (before ++ entry ∷ []) ≡ length before + 1 = length-append before (entry ∷ []) in
    let at : length (before ++ entry ∷ []) - 1 ≡ length before = omega arith in
    let within : length before < length (before ++ entry ∷ []) = omega arith in
    let now : moment_of (before ++ entry ∷ []) ≡ entry.moment.0 = moment_of-push before entry in
    record {
      spelled = spelled;
      in_order = record {
        numbered = omega (arith, follows.in_order.numbered, count);
        later = omega (arith, now);
        begun = follows.in_order.begun;
        ended = follows.in_order.ended;
      };
      row = record {
        last = entry;
        behind = rw (at, slice_get-get_or (before ++ entry ∷ []) (length before) entry within, get_or-append_seam before entry [] entry) refl;
        sent = record { sends = sends; same_caller = refl; same_moment = refl };
        size = size;
      };
    }
