-- What a gate finds of what another one left.
use Rattle.std.proofs.Common.{◌≡◌, ◌≢◌, ℕ, List, [], ◌∷◌, ◌++◌, Option, Some, None, refl, sym, subst, ◌∙◌, inl, inr, append-nil}
use Rattle.std.specs.Prelude.{option_to_list}
use Rattle.plant.specs.Stops.{Stops, LeftNow}
use Rattle.plant.specs.Joining.{Joins, Stays}
use Rattle.journal_core.specs.Journal.{IsJournal, JournalState}
use Rattle.journal_core.specs.Mounting.{Refuses, IsOutside as IsOutsideMount}
use Rattle.journal_core.specs.Standing.{Stands as JournalStands}
use Rattle.journal_core.specs.declared.fault.MountFault.{MountFault}
use Rattle.journal_core.specs.declared.fault.MountFault.TheVariants as mounts
use Rattle.gate_entries.specs.declared.entry.Entry.{Entry}
use Rattle.gate_machine.specs.History.{payloads_of, Follows, Legal}
use Rattle.gate_machine.specs.Sends.{Within}
use Rattle.gate_machine.specs.Move.{Held, IsSound, Extends, Settles}
use Rattle.gate_machine.specs.Step.{bodies_of}
use Rattle.gate_engine.specs.declared.fault.StartFault.{StartFault}
use Rattle.gate_engine.specs.declared.fault.StartFault.TheVariants as starts
use Rattle.gate_engine.specs.Engine.{held_as, RefusesOpen, IsBadAt, IsOutside, IsOther}
use Rattle.gate_engine.specs.Kept.{IsImageOf, Stands, IsSentOf, Kept, whole_of, KeepsBetween, FindsLegal, KeepsLegal}
use Rattle.gate_engine.proofs.Kept.{now_since, extends_same, extends_on, settled_image, sent_more}

-- one history more than a legal one
module _ (push : (history : List Entry) (entry : Entry) → Legal history → Follows history entry → Legal (history ++ entry ∷ [])) where
  whole_legal : (history : List Entry) (loose : Option Entry) → IsSound (held_as history loose) → Legal (whole_of history loose)
  whole_legal history None sound = sound.legal
  whole_legal history (Some entry) sound = push history entry sound.legal sound.waits

module _ (push : (history : List Entry) (entry : Entry) → Legal history → Follows history entry → Legal (history ++ entry ∷ []))
    (one : (bytes : List ℕ) (left right : List Entry) → Legal left → Legal right → IsJournal (payloads_of left) bytes → IsJournal (payloads_of right) bytes → left ≡ right) where
  -- an image of what was left is the journal of its history, or of this and what was loose
  settles_by : (history : List Entry) (loose : Option Entry) → IsSound (held_as history loose) → (found : List Entry) → Legal found → (image : List ℕ)
      → IsJournal (payloads_of found) image → IsImageOf history loose image → Settles (held_as history loose) found
  settles_by history None sound found legal image journal is = inl (one image found history legal sound.legal journal is)
  settles_by history (Some entry) sound found legal image journal is = elim is [
    | inl same ↦ inl (one image found history legal sound.legal journal same)
    | inr longer ↦ inr (one image found (history ++ entry ∷ []) legal (push history entry sound.legal sound.waits) journal longer)
  ]

  pub settles : (before : Held) → IsSound before → (found : List Entry) → Legal found → (image : List ℕ) → IsJournal (payloads_of found) image
      → IsImageOf before.history before.loose image → Settles before found
  settles before = settles_by before.history before.loose

  recorded_found : (more : (sent : List (List ℕ)) (history rest : List Entry) → Within sent (bodies_of history) → Within sent (bodies_of (history ++ rest)))
      (before : Held) (found : List Entry) (sent : List (List ℕ)) → Settles before found → Within sent (bodies_of before.history) → Within sent (bodies_of found)
  recorded_found more before found sent settled within = elim settled [
    | inl same ↦ subst (λ (h : List Entry). Within sent (bodies_of h)) (sym same) within
    | inr longer ↦ subst (λ (h : List Entry). Within sent (bodies_of h)) (sym longer) (more sent before.history (option_to_list before.loose) within)
  ]

  -- what is found of what was left has what the signer was sent
  pub sent_found : (more : (sent : List (List ℕ)) (history rest : List Entry) → Within sent (bodies_of history) → Within sent (bodies_of (history ++ rest)))
      (before : Held) → IsSound before → (old new : Stops) → Kept before old → Stays old new → (found : Held) → found.loose ≡ None → Legal found.history
      → Stands found new → IsSentOf found.history new
  sent_found more before sound old new kept stays found settled legal stands = λ image sent left.
      let pair = stays.each image sent (now_since old new stays.joins.later image sent left) in
      let is = settled_image found.history found.loose settled image (stands image sent left) in
      recorded_found more before found.history sent (settles before sound found.history legal image is (kept.stands image sent pair)) (kept.recorded image sent pair)

-- a history whose payloads were mounted stands
pub stands_found : (stops : Stops) (journal : JournalState) (payloads : List (List ℕ)) (found : Held) → found.loose ≡ None → payloads ≡ payloads_of found.history
    → JournalStands stops journal payloads → Stands found stops
stands_found stops journal payloads found settled is stands = λ image sent left.
    subst (λ (l : Option Entry). IsImageOf found.history l image) (sym settled)
    (subst (λ (p : List (List ℕ)). IsJournal p image) is (stands image sent left).is)

-- a history that is the gate's, or this with the loose entry, has what the signer was sent
pub sent_settled : (more : (sent : List (List ℕ)) (history rest : List Entry) → Within sent (bodies_of history) → Within sent (bodies_of (history ++ rest)))
    (before : Held) (found : List Entry) (stops : Stops) → Settles before found → IsSentOf before.history stops → IsSentOf found stops
sent_settled more before found stops settled recorded = elim settled [
  | inl same ↦ subst (λ (h : List Entry). IsSentOf h stops) (sym same) recorded
  | inr longer ↦ sent_more more before.history found (option_to_list before.loose) stops longer recorded
]

-- what was left is the journal of a legal history, which isn't refused
module _ (push : (history : List Entry) (entry : Entry) → Legal history → Follows history entry → Legal (history ++ entry ∷ []))
    (good : (bytes : List ℕ) (history : List Entry) (at : ℕ) → Legal history → IsJournal (payloads_of history) bytes → IsBadAt bytes at → ⊥)
    (unrefused : (bytes : List ℕ) (payloads : List (List ℕ)) (fault : MountFault) → IsJournal payloads bytes → Refuses fault bytes → IsOutsideMount fault) where
  outside_of_journal : (bytes : List ℕ) (history : List Entry) → Legal history → IsJournal (payloads_of history) bytes → (fault : StartFault) → RefusesOpen fault bytes
      → IsOutside fault
  outside_of_journal bytes history legal journal starts.NotBegun refused = absurd (unrefused bytes (payloads_of history) mounts.NotBegun journal refused)
  outside_of_journal bytes history legal journal (starts.JournalBad at) refused = absurd (good bytes history at legal journal refused)
  outside_of_journal bytes history legal journal starts.Disk refused = tt
  outside_of_journal bytes history legal journal starts.Clock refused = tt
  outside_of_journal bytes history legal journal (starts.ClockRange reading) refused = tt
  outside_of_journal bytes history legal journal starts.Full refused = tt
  outside_of_journal bytes history legal journal starts.NoMemory refused = tt

  outside_by : (bytes : List ℕ) (history : List Entry) (loose : Option Entry) → IsSound (held_as history loose) → IsImageOf history loose bytes → (fault : StartFault)
      → RefusesOpen fault bytes → IsOutside fault
  outside_by bytes history None sound is fault refused = outside_of_journal bytes history sound.legal is fault refused
  outside_by bytes history (Some entry) sound is fault refused = elim is [
    | inl same ↦ outside_of_journal bytes history sound.legal same fault refused
    | inr longer ↦ outside_of_journal bytes (history ++ entry ∷ []) (push history entry sound.legal sound.waits) longer fault refused
  ]

  pub outside : (bytes : List ℕ) (before : Held) → IsSound before → IsImageOf before.history before.loose bytes → (fault : StartFault) → RefusesOpen fault bytes
      → IsOutside fault
  outside bytes before sound is fault refused = outside_by bytes before.history before.loose sound is fault refused

-- a disk that tells its bytes isn't refused so
pub untold : (told : Option (List ℕ)) → ((bytes : List ℕ) → told ≡ Some bytes → ⊥) → told ≡ None
untold None refused = refl
untold (Some bytes) refused = absurd (refused bytes refl)

-- what the gate's history is, or this with the loose entry, isn't another one
pub not_other : (old : Held) (history : List Entry) → Settles old history → IsOther old history → ⊥
not_other old history settled other = elim settled [
  | inl same ↦ other.0 same
  | inr longer ↦ other.1 longer
]

-- ---- a whole call

pub extends_settled : (old : Held) (history : List Entry) → Settles old history → Extends old.history history
extends_settled old history settled = elim settled [
  | inl same ↦ ([], same ∙ sym (append-nil old.history))
  | inr longer ↦ (option_to_list old.loose, longer)
]

pub whole_on : (history : List Entry) (loose : Option Entry) → Extends history (whole_of history loose)
whole_on history None = extends_same history
whole_on history (Some entry) = (entry ∷ [], refl)

some_extends : (history more : List Entry) → history ≢ [] → Extends history more → more ≢ []
some_extends [] more some extends = absurd (some refl)
some_extends (entry ∷ history) more some extends = λ none. let wrong = sym extends.1 ∙ none in absurd cc

module _ (push : (history : List Entry) (entry : Entry) → Legal history → Follows history entry → Legal (history ++ entry ∷ []))
    (fronts : (front rest : List Entry) → Legal (front ++ rest) → front ≢ [] → Legal front)
    (more : (sent : List (List ℕ)) (history rest : List Entry) → Within sent (bodies_of history) → Within sent (bodies_of (history ++ rest))) where
  -- before the journal was mounted
  pair_by : (Given : Type 0) (history : List Entry) (loose : Option Entry) (new : Held) → IsSound (held_as history loose) → Extends history (whole_of new.history new.loose)
      → (image : List ℕ) (sent : List (List ℕ)) → IsImageOf history loose image → (Given → Within sent (bodies_of history))
      → FindsLegal Given (held_as history loose) new image sent
  pair_by Given history None new sound on image sent is recorded =
      record { history = history; legal = sound.legal; from = inl refl; journal = is; recorded = recorded }
  pair_by Given history (Some entry) new sound on image sent is recorded = elim is [
    | inl same ↦ record {
      history = history;
      legal = sound.legal;
      from = inr (extends_same history, on);
      journal = same;
      recorded = recorded;
    }
    | inr longer ↦ record {
      history = history ++ entry ∷ [];
      legal = push history entry sound.legal sound.waits;
      from = inl refl;
      journal = longer;
      recorded = λ given. more sent history (entry ∷ []) (recorded given);
    }
  ]

  pair_legal : (old new : Held) (stops : Stops) → IsSound old → Stands old stops → Extends old.history (whole_of new.history new.loose)
      → (image : List ℕ) (sent : List (List ℕ)) → LeftNow stops image sent → FindsLegal (IsSentOf old.history stops) old new image sent
  pair_legal old new stops sound stands on image sent left =
      pair_by (IsSentOf old.history stops) old.history old.loose new sound on image sent (stands image sent left) (λ given. given image sent left)

  -- the journal could not be mounted
  pub legal_still : (old new : Held) (first last : Stops) → new ≡ old → IsSound old → Stands old first → Stays first last
      → KeepsLegal (IsSentOf old.history first) old new first last
  legal_still old new first last same sound stands stays =
      subst (λ (h : Held). KeepsLegal (IsSentOf old.history first) old h first last) (sym same) (record {
        joins = stays.joins;
        each = λ image sent left. pair_legal old old first sound stands (whole_on old.history old.loose) image sent (stays.each image sent left);
      })

  front_legal : (whole history : List Entry) → Legal whole → history ≢ [] → Extends history whole → Legal history
  front_legal whole history legal some extends = fronts history extends.0 (subst Legal extends.1 legal) some

  -- the journal was mounted, where an entry was loose, and the command answered
  pub legal_settled : (old new mid : Held) (first then last : Stops) → IsSound old → IsSound new → Stands old first → Stays first then → Settles old mid.history
      → (IsSentOf old.history first → IsSentOf mid.history then) → KeepsBetween (IsSentOf mid.history then) mid.history new then last → Joins first last
      → KeepsLegal (IsSentOf old.history first) old new first last
  legal_settled old new mid first then last sound sound_new stands stays settled kept since joins =
      let begins = extends_settled old mid.history settled in
      let on = extends_on old.history mid.history (whole_of new.history new.loose) begins since.on in
      record {
        joins = joins;
        each = λ image sent left. elim (since.joins.joined first.moment image sent stays.joins.later left) [
          | inl earlier ↦ pair_legal old new first sound stands on image sent (stays.each image sent earlier)
          | inr later ↦
              let found = since.each image sent later in
              let extends = extends_on old.history mid.history found.history begins found.begins in
              record {
                history = found.history;
                legal = front_legal (whole_of new.history new.loose) found.history (whole_legal push new.history new.loose sound_new)
                    (some_extends old.history found.history sound.legal.some extends) found.ends;
                from = inr (extends, found.ends);
                journal = found.journal;
                recorded = λ given. found.recorded (kept given);
              }
        ];
      }
