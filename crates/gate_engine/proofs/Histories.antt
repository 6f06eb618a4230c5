-- Bytes are the journal of one legal history at most.
use Rattle.std.proofs.Common.{◌≡◌, ◌≢◌, ℕ, inl, inr, List, [], ◌∷◌, ◌++◌, refl, sym, ap, subst, ◌∙◌, append_assoc, append-nil, arith}
use Rattle.gate_entries.specs.declared.entry.Entry.{Entry}
use Rattle.gate_entries.specs.Spelling.{entry_bytes, IsEntry}
use Rattle.gate_machine.specs.History.{payloads_of, Follows, EachFollows, Legal}
use Rattle.journal_core.specs.Journal.{IsJournal, BreaksAt}
use Rattle.gate_engine.specs.Engine.{IsOfNoHistory, IsBadAt}

module _ (one_spelling : (left right : Entry) → IsEntry left → IsEntry right → entry_bytes left ≡ entry_bytes right → left ≡ right) where
  pub same_history : (before left right : List Entry) → EachFollows before left → EachFollows before right → payloads_of left ≡ payloads_of right → left ≡ right
  same_history before [] [] l r same = refl
  same_history before [] (entry ∷ right) l r same = absurd cc
  same_history before (entry ∷ left) [] l r same = absurd cc
  same_history before (entry ∷ left) (other ∷ right) l r same =
      let first : entry ≡ other = one_spelling entry other l.0.spelled r.0.spelled cc in
      let rest : payloads_of left ≡ payloads_of right = cc in
      let moved : EachFollows (before ++ entry ∷ []) right = subst (λ (e : Entry). EachFollows (before ++ e ∷ []) right) (sym first) r.1 in
      ap (λ (e : Entry). e ∷ left) first ∙ ap (λ (l : List Entry). other ∷ l) (same_history (before ++ entry ∷ []) left right l.1 moved rest)

  -- a legal history strays nowhere
  pub strays_not : (before history front : List Entry) (payload : List ℕ) (rest : List (List ℕ)) → EachFollows before history → EachFollows before front
      → payloads_of history ≡ payloads_of front ++ payload ∷ rest → ((entry : Entry) → Follows (before ++ front) entry → payload ≢ entry_bytes entry) → ⊥
  strays_not before [] [] payload rest each front_each split stray = absurd cc
  strays_not before [] (entry ∷ front) payload rest each front_each split stray = absurd cc
  strays_not before (entry ∷ history) [] payload rest each front_each split stray =
      let same : payload ≡ entry_bytes entry = cc in
      stray entry (subst (λ (b : List Entry). Follows b entry) (sym (append-nil before)) each.0) same
  strays_not before (entry ∷ history) (other ∷ front) payload rest each front_each split stray =
      let first : entry ≡ other = one_spelling entry other each.0.spelled front_each.0.spelled cc in
      let others : payloads_of history ≡ payloads_of front ++ payload ∷ rest = cc in
      let moved : EachFollows (before ++ entry ∷ []) front = subst (λ (e : Entry). EachFollows (before ++ e ∷ []) front) (sym first) front_each.1 in
      strays_not (before ++ entry ∷ []) history front payload rest each.1 moved others
      (λ next follows. stray next (subst (λ (b : List Entry). Follows b next)
      (ap (λ (e : Entry). (before ++ e ∷ []) ++ front) first ∙ append_assoc before (other ∷ []) front) follows))

pub none_of_none : (history : List Entry) → payloads_of history ≡ [] → history ≡ []
none_of_none [] none = refl
none_of_none (entry ∷ history) none = absurd cc

module _ (one_spelling : (left right : Entry) → IsEntry left → IsEntry right → entry_bytes left ≡ entry_bytes right → left ≡ right)
    (one_reading : (bytes : List ℕ) (left right : List (List ℕ)) → IsJournal left bytes → IsJournal right bytes → left ≡ right)
    (no_journal : (bytes : List ℕ) (at : ℕ) (payloads : List (List ℕ)) → BreaksAt bytes at → IsJournal payloads bytes → ⊥) where
  of_no_history : (bytes : List ℕ) (history : List Entry) (at : ℕ) → Legal history → IsJournal (payloads_of history) bytes → IsOfNoHistory bytes at → ⊥
  of_no_history bytes history at legal journal bad =
      let same : payloads_of history ≡ bad.payloads = one_reading bytes (payloads_of history) bad.payloads journal bad.journal in
      elim bad.illegal [
        | inl none ↦ legal.some (none_of_none history (same ∙ none.0))
        | inr strays ↦ strays_not one_spelling [] history strays.before strays.payload strays.rest legal.each strays.each (same ∙ strays.split) strays.stray
      ]

  pub not_bad : (bytes : List ℕ) (history : List Entry) (at : ℕ) → Legal history → IsJournal (payloads_of history) bytes → IsBadAt bytes at → ⊥
  not_bad bytes history at legal journal bad =
      elim bad [
        | inl long ↦ omega (arith, long.long, journal.fits)
        | inr other ↦ elim other [
          | inl breaks ↦ no_journal bytes at (payloads_of history) breaks.breaks journal
          | inr none ↦ of_no_history bytes history at legal journal none
        ]
      ]
