-- Settings in a legal history: it begins with some, all are readable, and new ones may come behind.
use Rattle.std.proofs.Common.{◌≡◌, ◌↔◌, ℕ, ◌≤◌, Bool, true, List, [], ◌∷◌, ◌++◌, Result, Ok, Err, refl, sym, subst, arith}
use Rattle.std.specs.Prelude.{IsTrue, IfOk}
use Rattle.std.specs.List.{slice_get}
use Rattle.std.specs.Option.{IsSomeAnd}
use Rattle.gate_base.specs.declared.memory.NoMemory.{NoMemory}
use Rattle.gate_base.specs.declared.moment.Moment.{Moment}
use Rattle.gate_settings.specs.Meaning.{IsReadable}
use Rattle.evidence_index.specs.Lookups.{is_settings}
use Rattle.evidence_index.specs.Noting.{IsReadableIn, IsEarly, AreSound}
use Rattle.gate_entries.specs.declared.entry.Entry.{Entry}
use Rattle.gate_entries.specs.declared.entry.What.{What}
use Rattle.gate_entries.specs.declared.entry.What.TheVariants.{Settings, Order, Challenge, Observation, CaaAnswer, Send, Signed, Blocked}
use Rattle.gate_entries.specs.Command.{settings_entry}
use Rattle.gate_entries.specs.Spelling.{IsEntry}
use Rattle.gate_machine.specs.declared.place.Place.{Place}
use Rattle.gate_machine.specs.Answer.{IsInRange}
use Rattle.gate_machine.specs.Commands.Settings.{AreInForce, SettingsCome}
use Rattle.gate_machine.specs.History.{last_moment, IsInOrder, IsNextPlace, MeetsRow, Follows, EachFollows, Legal}
use Rattle.gate_machine.specs.Renewal.{renewal_at, first_history}

-- all but settings come behind other entries
first_row : (caller : List ℕ) (moment : Moment) (what : What) → MeetsRow [] caller moment what → is_settings what ≡ true
first_row caller moment (Settings bytes) row = refl
first_row caller moment (Order key common days targets request) row = absurd (row.some refl)
first_row caller moment (Challenge key order method target value thumb) row = absurd row
first_row caller moment (Observation key challenge seen_at seen) row = absurd (row.under.some refl)
first_row caller moment (CaaAnswer key order target seen_at answers) row = absurd (row.under.some refl)
first_row caller moment (Send order body) row = cc row.own
first_row caller moment (Signed order signature) row = cc row.behind
first_row caller moment (Blocked key spki) row = absurd (row.some refl)

pub begins : (history : List Entry) → Legal history → IsSomeAnd (slice_get history 0) (λ entry. is_settings entry.what ≡ true)
begins [] legal = absurd (legal.some refl)
begins (entry ∷ entries) legal = first_row entry.caller entry.moment entry.what legal.each.0.row

row_readable : (before : List Entry) (caller : List ℕ) (moment : Moment) (what : What) → MeetsRow before caller moment what → IsReadableIn what
row_readable before caller moment (Settings bytes) row = row.readable
row_readable before caller moment (Order key common days targets request) row = tt
row_readable before caller moment (Challenge key order method target value thumb) row = tt
row_readable before caller moment (Observation key challenge seen_at seen) row = tt
row_readable before caller moment (CaaAnswer key order target seen_at answers) row = tt
row_readable before caller moment (Send order body) row = tt
row_readable before caller moment (Signed order signature) row = tt
row_readable before caller moment (Blocked key spki) row = tt

row_early : (before : List Entry) (caller : List ℕ) (moment : Moment) (what : What) → moment.0 ≤ last_moment → MeetsRow before caller moment what → IsEarly what
row_early before caller moment (Settings bytes) ended row = omega arith
row_early before caller moment (Order key common days targets request) ended row = omega arith
row_early before caller moment (Challenge key order method target value thumb) ended row = omega arith
row_early before caller moment (Observation key challenge seen_at seen) ended row = omega (arith, row.timely.early, ended)
row_early before caller moment (CaaAnswer key order target seen_at answers) ended row = omega (arith, row.timely.early, ended)
row_early before caller moment (Send order body) ended row = omega arith
row_early before caller moment (Signed order signature) ended row = omega arith
row_early before caller moment (Blocked key spki) ended row = omega arith

pub each_sound : (before entries : List Entry) → EachFollows before entries → AreSound entries
each_sound before [] each = tt
each_sound before (entry ∷ entries) each = (
  record {
    readable = row_readable before entry.caller entry.moment entry.what each.0.row;
    early = row_early before entry.caller entry.moment entry.what each.0.in_order.ended each.0.row;
  },
  each_sound (before ++ entry ∷ []) entries each.1,
)

-- settings that aren't in force may come behind a history, at its next place
pub settings_follow : (history : List Entry) (place : Place) (bytes : List ℕ) (entry : Entry) → IsNextPlace history place → IsReadable bytes
    → ¬ (AreInForce bytes history) → IsEntry entry → entry ≡ renewal_at place bytes → Follows history entry
settings_follow history place bytes entry next readable other spelled is =
    subst (λ (e : Entry). Follows history e) (sym is) (record {
      spelled = subst IsEntry is spelled;
      in_order = record { numbered = next.numbered; later = next.later; begun = next.begun; ended = next.ended };
      row = record { nobody = refl; readable = readable; other = other };
    })

-- readable settings may stand alone
pub settings_begin : (moment : ℕ) (bytes : List ℕ) → IsEntry (settings_entry 1 (record { 0 = moment }) bytes) → IsInRange moment → IsReadable bytes
    → Legal (first_history moment bytes)
settings_begin moment bytes spelled in_range readable = record {
  some = λ none. cc none;
  each = (
    record {
      spelled = spelled;
      in_order = record { numbered = refl; later = omega arith; begun = in_range.begun; ended = in_range.ended };
      row = record { nobody = refl; readable = readable; other = λ same. cc same };
    },
    tt,
  );
}

-- ---- what a test of a row tells

pub settings_row : (before : List Entry) (caller bytes : List ℕ) (result : Result Bool NoMemory) → caller ≡ [] → ¬ (AreInForce bytes before)
    → IfOk result (λ readable. IsTrue readable ↔ IsReadable bytes) → IfOk result (λ come. IsTrue come ↔ SettingsCome before caller bytes)
settings_row before caller bytes (Ok readable) nobody other told = (
  λ yes. record { nobody = nobody; readable = told.0 yes; other = other },
  λ come. told.1 come.readable,
)
settings_row before caller bytes (Err fault) nobody other told = tt

pub follows_row : (before : List Entry) (entry : Entry) (result : Result Bool NoMemory) → IsEntry entry → IsInOrder before entry
    → IfOk result (λ meets. IsTrue meets ↔ MeetsRow before entry.caller entry.moment entry.what) → IfOk result (λ follows. IsTrue follows ↔ Follows before entry)
follows_row before entry (Ok meets) spelled in_order told = (
  λ yes. record { spelled = spelled; in_order = in_order; row = told.0 yes },
  λ follows. told.1 follows.row,
)
follows_row before entry (Err fault) spelled in_order told = tt
