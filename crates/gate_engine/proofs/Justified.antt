-- What recovery finds after a stop, over one run of calls behind another.
use Rattle.std.proofs.Common.{◌≡◌, ◌≢◌, ℕ, ◌+◌, ◌≤◌, List, [], ◌∷◌, ◌++◌, length, Option, Some, None, refl, sym, ap, subst, inl, inr, arith}
use Rattle.plant.specs.Stops.{Stops, LeftNow}
use Rattle.plant.specs.Joining.{Joins, Stays}
use Rattle.journal_core.specs.Journal.{IsJournal, gate_place}
use Rattle.gate_entries.specs.declared.entry.Entry.{Entry}
use Rattle.gate_machine.specs.History.{payloads_of, Follows, Legal}
use Rattle.gate_machine.specs.Sends.{Within}
use Rattle.gate_machine.specs.Move.{Held, IsSound, Settles, Extends}
use Rattle.gate_machine.specs.Step.{bodies_of}
use Rattle.gate_engine.specs.Engine.{held_as}
use Rattle.gate_engine.specs.Kept.{IsImageOf, Stands, IsSentOf, Kept, KeepsBetween, KeepsLegal}
use Rattle.gate_engine.specs.Justified.{FindsJustified, JustifiesSince, IsLeftBehind}
use Rattle.gate_engine.proofs.Kept.{now_since, extends_same, extends_on}
use Rattle.gate_engine.proofs.Recovery.{extends_settled, whole_on, legal_settled}

-- ---- one call, or a run of calls

-- what is told of an engine's call
pub legal_justifies : (Given : Type 0) (old new : Held) (first last : Stops) → KeepsLegal Given old new first last → JustifiesSince Given old.history first last
legal_justifies Given old new first last keeps = record {
  joins = keeps.joins;
  each = λ image sent left.
      let found = keeps.each image sent left in
      record {
        history = found.history;
        legal = found.legal;
        begins = elim found.from [
          | inl whole ↦ subst (λ (h : List Entry). Extends old.history h) (sym whole) (whole_on old.history old.loose)
          | inr between ↦ between.0
        ];
        journal = found.journal;
        recorded = found.recorded;
      };
}

-- two runs, one behind the other
pub justifies_on : (First Then : Type 0) → (First → Then) → (before mid : List Entry) → Extends before mid → (first then last : Stops) → Joins first last
    → JustifiesSince First before first then → JustifiesSince Then mid then last → JustifiesSince First before first last
justifies_on First Then carries before mid extends first then last joins one two = record {
  joins = joins;
  each = λ image sent left. elim (two.joins.joined first.moment image sent one.joins.later left) [
    | inl earlier ↦ one.each image sent earlier
    | inr later ↦
        let found = two.each image sent later in
        record {
          history = found.history;
          legal = found.legal;
          begins = extends_on before mid found.history extends found.begins;
          journal = found.journal;
          recorded = λ given. found.recorded (carries given);
        }
  ];
}

-- what was given holds
pub given_justifies : (Given : Type 0) (before : List Entry) (first last : Stops) → Given → JustifiesSince Given before first last
    → JustifiesSince (Unit {0}) before first last
given_justifies Given before first last given justifies = record {
  joins = justifies.joins;
  each = λ image sent left.
      let found = justifies.each image sent left in
      record {
        history = found.history;
        legal = found.legal;
        begins = found.begins;
        journal = found.journal;
        recorded = λ _. found.recorded given;
      };
}

-- ---- what is left

pub left_still : (before : Held) (first last : Stops) → IsSound before → Kept before first → Stays first last → IsLeftBehind before.history last
left_still before first last sound kept stays =
    let pair : (image : List ℕ) (sent : List (List ℕ)) → LeftNow last image sent → LeftNow first image sent = λ image sent left.
    stays.each image sent (now_since first last stays.joins.later image sent left) in
    record {
      held = before;
      sound = sound;
      begins = extends_same before.history;
      kept = record {
        stands = λ image sent left. kept.stands image sent (pair image sent left);
        recorded = λ image sent left. kept.recorded image sent (pair image sent left);
      };
    }

pub left_behind : (before found after : Held) (last : Stops) → Settles before found.history → Extends found.history after.history → IsSound after → Stands after last
    → IsSentOf after.history last → IsLeftBehind before.history last
left_behind before found after last settles extends sound stands recorded = record {
  held = after;
  sound = sound;
  begins = extends_on before.history found.history after.history (extends_settled before found.history settles) extends;
  kept = record { stands = stands; recorded = recorded };
}

-- ---- calls that leave the pairs as they were

module _ (push : (history : List Entry) (entry : Entry) → Legal history → Follows history entry → Legal (history ++ entry ∷ []))
    (more : (sent : List (List ℕ)) (history rest : List Entry) → Within sent (bodies_of history) → Within sent (bodies_of (history ++ rest))) where
  found_by : (Given : Type 0) (history : List Entry) (loose : Option Entry) → IsSound (held_as history loose) → (image : List ℕ) (sent : List (List ℕ))
      → IsImageOf history loose image → (Given → Within sent (bodies_of history)) → FindsJustified Given history image sent
  found_by Given history None sound image sent is recorded =
      record { history = history; legal = sound.legal; begins = extends_same history; journal = is; recorded = recorded }
  found_by Given history (Some entry) sound image sent is recorded = elim is [
    | inl same ↦ record { history = history; legal = sound.legal; begins = extends_same history; journal = same; recorded = recorded }
    | inr longer ↦ record {
      history = history ++ entry ∷ [];
      legal = push history entry sound.legal sound.waits;
      begins = (entry ∷ [], refl);
      journal = longer;
      recorded = λ given. more sent history (entry ∷ []) (recorded given);
    }
  ]

  pub still_justifies : (held : Held) (first last : Stops) → IsSound held → Stands held first → Stays first last
      → JustifiesSince (IsSentOf held.history first) held.history first last
  still_justifies held first last sound stands stays = record {
    joins = stays.joins;
    each = λ image sent left.
        let pair = stays.each image sent left in
        found_by (IsSentOf held.history first) held.history held.loose sound image sent (stands image sent pair) (λ given. given image sent pair);
  }

  pub still_headline : (before : Held) (first last : Stops) → IsSound before → Kept before first → Stays first last
      → JustifiesSince (Unit {0}) before.history first last
  still_headline before first last sound kept stays =
      given_justifies (IsSentOf before.history first) before.history first last kept.recorded (still_justifies before first last sound kept.stands stays)

  -- an engine was started from what a gate left, and asked
  pub session_headline : (before found : Held) (first then last : Stops) → IsSound before → Kept before first → Stays first then → Settles before found.history
      → IsSentOf found.history then → Joins first last → JustifiesSince (IsSentOf found.history then) found.history then last
      → JustifiesSince (Unit {0}) before.history first last
  session_headline before found first then last sound kept stays settles recorded joins since =
      justifies_on (Unit {0}) (Unit {0}) (λ all. all) before.history found.history (extends_settled before found.history settles) first then last joins
      (still_headline before first then sound kept stays) (given_justifies (IsSentOf found.history then) found.history then last recorded since)

  -- it was mounted, and then written
  pub started_headline : ((front rest : List Entry) → Legal (front ++ rest) → front ≢ [] → Legal front) → (before found after : Held) (first then last : Stops)
      → IsSound before → Kept before first → Stays first then → Settles before found.history → (IsSentOf before.history first → IsSentOf found.history then)
      → IsSound after → KeepsBetween (IsSentOf found.history then) found.history after then last → Joins first last
      → JustifiesSince (Unit {0}) before.history first last
  started_headline fronts before found after first then last sound kept stays settles carries sound_after since joins =
      given_justifies (IsSentOf before.history first) before.history first last kept.recorded
      (legal_justifies (IsSentOf before.history first) before after first last
      (legal_settled push fronts more before after found first then last sound sound_after kept.stands stays settles carries since joins))

-- and then asked
pub asked_headline : (before found : Held) (first then last : Stops) → Extends before.history found.history → IsSentOf found.history then → Joins first last
    → JustifiesSince (Unit {0}) before.history first then → JustifiesSince (IsSentOf found.history then) found.history then last
    → JustifiesSince (Unit {0}) before.history first last
asked_headline before found first then last extends recorded joins one two =
    justifies_on (Unit {0}) (Unit {0}) (λ all. all) before.history found.history extends first then last joins one
    (given_justifies (IsSentOf found.history then) found.history then last recorded two)

-- ---- a disk that holds what a gate left isn't empty

module _ (size : (bytes : List ℕ) (payloads : List (List ℕ)) → IsJournal payloads bytes → gate_place payloads + 1 ≤ length bytes) where
  some_journal : (bytes : List ℕ) (payloads : List (List ℕ)) → IsJournal payloads bytes → bytes ≢ []
  some_journal bytes payloads journal empty =
      let count : length bytes ≡ 0 = ap length empty in
      let least = size bytes payloads journal in
      omega (arith, count, least)

  some_image : (history : List Entry) (loose : Option Entry) (bytes : List ℕ) → IsImageOf history loose bytes → bytes ≢ []
  some_image history None bytes is = some_journal bytes (payloads_of history) is
  some_image history (Some entry) bytes is = elim is [
    | inl same ↦ some_journal bytes (payloads_of history) same
    | inr longer ↦ some_journal bytes (payloads_of (history ++ entry ∷ [])) longer
  ]

  pub some_bytes : (before : Held) (stops : Stops) (bytes : List ℕ) → Kept before stops → (sent : List (List ℕ)) × LeftNow stops bytes sent → bytes ≢ []
  some_bytes before stops bytes kept pair = some_image before.history before.loose bytes (kept.stands bytes pair.0 pair.1)
