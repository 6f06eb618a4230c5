-- What a stop may leave of a gate's history, over the calls of the journal and of the signer.
use Rattle.std.proofs.Common.{◌≡◌, ◌⊎◌, ℕ, ◌≤◌, List, [], ◌∷◌, ◌++◌, Option, Some, None, refl, sym, ap, ap₂, subst, ◌∙◌, inl, inr, append_assoc, append-nil}
use Rattle.std.proofs.lemmas.List.{map_push}
use Rattle.plant.specs.Stops.{Stops, LeftNow, LeftSince}
use Rattle.plant.specs.Joining.{Joins, Stays, MaySend}
use Rattle.journal_core.specs.Journal.{no_chain, chain_after, IsJournal, JournalState}
use Rattle.journal_core.specs.Standing.{Stands as JournalStands, MayAppend}
use Rattle.gate_entries.specs.declared.entry.Entry.{Entry}
use Rattle.gate_entries.specs.Spelling.{entry_bytes}
use Rattle.gate_machine.specs.History.{payloads_of, journal_place}
use Rattle.gate_machine.specs.Sends.{Within}
use Rattle.gate_machine.specs.Move.{Held, Holds, Extends}
use Rattle.gate_machine.specs.Step.{bodies_of}
use Rattle.gate_engine.specs.Engine.{held_as}
use Rattle.gate_engine.specs.Kept.{IsImageOf, Stands, IsSentOf, MayBeSent, whole_of, FindsBetween, KeepsBetween}

-- what a stop now may leave, a stop since the old state may have left
pub now_since : (old new : Stops) → old.moment ≤ new.moment → (image : List ℕ) (sent : List (List ℕ)) → LeftNow new image sent → LeftSince old new image sent
now_since old new later image sent left = new.earlier old.moment new.moment image sent later left

pub extends_same : (history : List Entry) → Extends history history
extends_same history = ([], sym (append-nil history))

pub extends_on : (first mid last : List Entry) → Extends first mid → Extends mid last → Extends first last
extends_on first mid last left right = (
  left.0 ++ right.0,
  right.1 ∙ ap (λ (l : List Entry). l ++ right.0) left.1 ∙ append_assoc first left.0 right.0,
)

-- ---- a call that leaves the pairs as they were

pub stands_stays : (held : Held) (old new : Stops) → Stands held old → Stays old new → Stands held new
stands_stays held old new stands stays = λ image sent left. stands image sent (stays.each image sent (now_since old new stays.joins.later image sent left))

pub sent_stays : (history : List Entry) (old new : Stops) → IsSentOf history old → Stays old new → IsSentOf history new
sent_stays history old new recorded stays = λ image sent left. recorded image sent (stays.each image sent (now_since old new stays.joins.later image sent left))

pub stands_same : (held now : Held) → now.history ≡ held.history → now.loose ≡ held.loose → (stops : Stops) → Stands held stops → Stands now stops
stands_same held now history loose stops stands = subst (λ (h : Held). Stands h stops) (sym (ap₂ held_as history loose)) stands

held_is : (new : Held) (history : List Entry) → Holds new history → new ≡ held_as history None
held_is new history held = ap₂ held_as held.0 held.1

found_plain : (Given : Type 0) (history : List Entry) (image : List ℕ) (sent : List (List ℕ)) → IsImageOf history None image → (Given → Within sent (bodies_of history))
    → FindsBetween Given history (held_as history None) image sent
found_plain Given history image sent is recorded = record {
  history = history;
  begins = extends_same history;
  ends = extends_same history;
  journal = is;
  recorded = recorded;
}

pub found_settled : (Given : Type 0) (history : List Entry) (new : Held) → Holds new history → (image : List ℕ) (sent : List (List ℕ))
    → IsImageOf new.history new.loose image → (Given → Within sent (bodies_of history)) → FindsBetween Given history new image sent
found_settled Given history new held image sent is recorded =
    subst (λ (h : Held). FindsBetween Given history h image sent) (sym (held_is new history held))
    (found_plain Given history image sent (subst (λ (h : Held). IsImageOf h.history h.loose image) (held_is new history held) is) recorded)

on_settled : (history : List Entry) (new : Held) → Holds new history → Extends history (whole_of new.history new.loose)
on_settled history new held = subst (λ (h : Held). Extends history (whole_of h.history h.loose)) (sym (held_is new history held)) (extends_same history)

-- nothing was called, or only what leaves the pairs as they were
pub between_still : (history : List Entry) (new : Held) (stops : Stops) → Holds new history → Stands new stops → Stays stops stops
    → KeepsBetween (IsSentOf history stops) history new stops stops
between_still history new stops held stands still = record {
  joins = still.joins;
  on = on_settled history new held;
  each = λ image sent left.
      let before = still.each image sent left in
      found_settled (IsSentOf history stops) history new held image sent (stands image sent before) (λ given. given image sent before);
}

pub sent_still : (history : List Entry) (new : Held) (stops : Stops) → Holds new history → IsSentOf history stops → IsSentOf new.history stops
sent_still history new stops held given = subst (λ (h : List Entry). IsSentOf h stops) (sym held.0) given

-- ---- two runs, one behind the other

pub between_on : (First Then : Type 0) → (First → Then) → (before mid : List Entry) (new : Held) (first then last : Stops) → Joins first last
    → KeepsBetween First before (held_as mid None) first then → KeepsBetween Then mid new then last → KeepsBetween First before new first last
between_on First Then carries before mid new first then last joins one two = record {
  joins = joins;
  on = extends_on before mid (whole_of new.history new.loose) one.on two.on;
  each = λ image sent left. elim (two.joins.joined first.moment image sent one.joins.later left) [
    | inl earlier ↦
        let found = one.each image sent earlier in
        record {
          history = found.history;
          begins = found.begins;
          ends = extends_on found.history mid (whole_of new.history new.loose) found.ends two.on;
          journal = found.journal;
          recorded = found.recorded;
        }
    | inr later ↦
        let found = two.each image sent later in
        record {
          history = found.history;
          begins = extends_on before mid found.history one.on found.begins;
          ends = found.ends;
          journal = found.journal;
          recorded = λ given. found.recorded (carries given);
        }
  ];
}

-- ---- an entry is committed

pub settled_image : (history : List Entry) (loose : Option Entry) → loose ≡ None → (image : List ℕ) → IsImageOf history loose image → IsJournal (payloads_of history) image
settled_image history loose settled image is = subst (λ (l : Option Entry). IsImageOf history l image) settled is

pub stands_of : (history : List Entry) (loose : Option Entry) → loose ≡ None → (journal : JournalState) → journal.at ≡ journal_place history
    → journal.chain ≡ chain_after no_chain (payloads_of history) → (stops : Stops) → Stands (held_as history loose) stops
    → JournalStands stops journal (payloads_of history)
stands_of history loose settled journal place linked stops stands = λ image sent left.
    record { is = settled_image history loose settled image (stands image sent left); place = place; linked = linked }

more_payloads : (history : List Entry) (entry : Entry) (payload image : List ℕ) → payload ≡ entry_bytes entry → IsJournal (payloads_of history ++ payload ∷ []) image
    → IsJournal (payloads_of (history ++ entry ∷ [])) image
more_payloads history entry payload image is journal =
    subst (λ (p : List (List ℕ)). IsJournal p image) (ap (λ (b : List ℕ). payloads_of history ++ b ∷ []) is ∙ sym (map_push entry_bytes history entry)) journal

module _ (history : List Entry) (loose : Option Entry) (settled : loose ≡ None) (entry : Entry) (payload : List ℕ) (is : payload ≡ entry_bytes entry) (journal : JournalState)
    (place : journal.at ≡ journal_place history) (linked : journal.chain ≡ chain_after no_chain (payloads_of history)) (old new : Stops)
    (stands : Stands (held_as history loose) old) (moments : MayAppend payload journal old new) where
  sent_since : IsSentOf history old → (image : List ℕ) (sent : List (List ℕ)) → LeftSince old new image sent → Within sent (bodies_of history)
  sent_since given image sent left = let before = moments.keeps.each image sent left in given before.0 sent before.1

  pub sent_committed : IsSentOf history old → IsSentOf history new
  sent_committed given image sent left = sent_since given image sent (now_since old new moments.keeps.joins.later image sent left)

  either : (image : List ℕ) (sent : List (List ℕ)) → LeftSince old new image sent
      → IsJournal (payloads_of history) image ⊎ IsJournal (payloads_of (history ++ entry ∷ [])) image
  either image sent left =
      elim (moments.either (payloads_of history) (stands_of history loose settled journal place linked old stands) image sent left) [
        | inl same ↦ inl same
        | inr longer ↦ inr (more_payloads history entry payload image is longer)
      ]

  pub stands_committed : (journal' : JournalState) (now : List Entry) → now ≡ history ++ entry ∷ []
      → ((payloads : List (List ℕ)) → JournalStands old journal payloads → JournalStands new journal' (payloads ++ payload ∷ [])) → Stands (held_as now loose) new
  stands_committed journal' now now_is ok =
      subst (λ (h : List Entry). Stands (held_as h loose) new) (sym now_is)
      (subst (λ (l : Option Entry). Stands (held_as (history ++ entry ∷ []) l) new) (sym settled) (λ image sent left.
      let stood = ok (payloads_of history) (stands_of history loose settled journal place linked old stands) image sent left in
      more_payloads history entry payload image is stood.is))

  pub stands_lost : (now : List Entry) → now ≡ history → Stands (held_as now (Some entry)) new
  stands_lost now now_is = subst (λ (h : List Entry). Stands (held_as h (Some entry)) new) (sym now_is)
      (λ image sent left. either image sent (now_since old new moments.keeps.joins.later image sent left))

  pub between_committed : ((sent : List (List ℕ)) (history rest : List Entry) → Within sent (bodies_of history) → Within sent (bodies_of (history ++ rest)))
      → (new_held : Held) → whole_of new_held.history new_held.loose ≡ history ++ entry ∷ [] → KeepsBetween (IsSentOf history old) history new_held old new
  between_committed more new_held whole = record {
    joins = moments.keeps.joins;
    on = (entry ∷ [], whole);
    each = λ image sent left. elim (either image sent left) [
      | inl same ↦ record {
        history = history;
        begins = extends_same history;
        ends = (entry ∷ [], whole);
        journal = same;
        recorded = λ given. sent_since given image sent left;
      }
      | inr longer ↦ record {
        history = history ++ entry ∷ [];
        begins = (entry ∷ [], refl);
        ends = ([], whole ∙ sym (append-nil (history ++ entry ∷ [])));
        journal = longer;
        recorded = λ given. more sent history (entry ∷ []) (sent_since given image sent left);
      }
    ];
  }

pub whole_settled : (now : List Entry) (loose : Option Entry) → loose ≡ None → whole_of now loose ≡ now
whole_settled now loose settled = ap (whole_of now) settled

-- ---- a body is sent to the signer

module _ (history : List Entry) (loose : Option Entry) (settled : loose ≡ None) (body handed : List ℕ) (is : handed ≡ body) (old new : Stops)
    (stands : Stands (held_as history loose) old) (sends : MaySend handed old new) where
  recorded_sent : MayBeSent body history old → IsSentOf history old → (image : List ℕ) (sent : List (List ℕ)) → LeftSince old new image sent
      → Within sent (bodies_of history)
  recorded_sent may given image sent left =
      let before = sends.each image sent left in
      elim before.2 [
        | inl same ↦ subst (λ (s : List (List ℕ)). Within s (bodies_of history)) (sym same) (given image before.0 before.1)
        | inr added ↦ subst (λ (s : List (List ℕ)). Within s (bodies_of history)) (sym (added ∙ ap (λ (b : List ℕ). before.0 ++ b ∷ []) is)) (may image before.0 before.1)
      ]

  pub stands_sent : Stands (held_as history loose) new
  stands_sent image sent left =
      let before = sends.each image sent (now_since old new sends.joins.later image sent left) in
      stands image before.0 before.1

  pub sent_sent : MayBeSent body history old → IsSentOf history old → IsSentOf history new
  sent_sent may given image sent left = recorded_sent may given image sent (now_since old new sends.joins.later image sent left)

  pub between_sent : KeepsBetween (MayBeSent body history old × IsSentOf history old) history (held_as history loose) old new
  between_sent = record {
    joins = sends.joins;
    on = on_settled history (held_as history loose) (refl, settled);
    each = λ image sent left.
        let before = sends.each image sent left in
        found_settled (MayBeSent body history old × IsSentOf history old) history (held_as history loose) (refl, settled) image sent (stands image before.0 before.1)
        (λ given. recorded_sent given.0 given.1 image sent left);
  }

  pub between_sent_settled : KeepsBetween (MayBeSent body history old × IsSentOf history old) history (held_as history None) old new
  between_sent_settled =
      subst (λ (l : Option Entry). KeepsBetween (MayBeSent body history old × IsSentOf history old) history (held_as history l) old new) settled between_sent

-- what is sent has its entry at the end of the history
pub may_be_sent : (history now : List Entry) (entry : Entry) (body given_body : List ℕ) (stops : Stops) → now ≡ history ++ entry ∷ [] → given_body ≡ body
    → ((sent : List (List ℕ)) → Within sent (bodies_of history) → Within (sent ++ body ∷ []) (bodies_of (history ++ entry ∷ []))) → IsSentOf history stops
    → MayBeSent given_body now stops
may_be_sent history now entry body given_body stops now_is body_is sends given = λ image sent left.
    subst (λ (h : List Entry). Within (sent ++ given_body ∷ []) (bodies_of h)) (sym now_is)
    (subst (λ (b : List ℕ). Within (sent ++ b ∷ []) (bodies_of (history ++ entry ∷ []))) (sym body_is) (sends sent (given image sent left)))

pub sent_more : ((sent : List (List ℕ)) (history rest : List Entry) → Within sent (bodies_of history) → Within sent (bodies_of (history ++ rest)))
    → (history now more_entries : List Entry) (stops : Stops) → now ≡ history ++ more_entries → IsSentOf history stops → IsSentOf now stops
sent_more more history now more_entries stops is given =
    subst (λ (h : List Entry). IsSentOf h stops) (sym is) (λ image sent left. more sent history more_entries (given image sent left))
