-- An append: what a stop may leave since its start, and after it.
use Rattle.std.proofs.Common.{◌≡◌, inl, ⊎_elim, ◌⊎◌, ℕ, ◌+◌, List, [], ◌∷◌, ◌++◌, length, Option, Some, option_map, sym, ◌∙◌, ap, subst, arith, length-append, Bool}
use Rattle.plant.specs.Plant.{overwritten}
use Rattle.plant.specs.Stops.{Stops, LeftNow, IsDurable}
use Rattle.journal_core.specs.Journal.{no_chain, IsPayload, IsJournal, HasRoom, JournalState, group, chained, total_of}
use Rattle.journal_core.specs.Standing.{Stands, Commits, MayAppend}
use Rattle.journal_core.proofs.Groups.{group_length, gate_place-push, chain_after-push}
use Rattle.journal_core.proofs.Gates.{torn_behind, any_gate, open_gate}
use Rattle.journal_core.proofs.Moments.{told_before}

-- a mounted journal after its fields have changed as an append changes them
pub grown : (journal : JournalState) (at count spare : ℕ) (chain next payload : List ℕ) (broken : Bool)
    → record { at = at; chain = chain; spare = spare; broken = broken } ≡ journal → count ≡ 37 + length payload → next ≡ chained chain payload
    → record { at = at + count; chain = next; spare = spare; broken = broken } ≡ record journal { at = journal.at + total_of payload; chain = chained journal.chain payload }
grown journal at count spare chain next payload broken view size link =
    let change : JournalState → JournalState = λ s. record s { at = s.at + total_of payload; chain = chained s.chain payload } in
    let step : record { at = at + count; chain = next; spare = spare; broken = broken } ≡ change (record { at = at; chain = chain; spare = spare; broken = broken }) =
    λ i. record { at = at + size i; chain = link i; spare = spare; broken = broken } in
    step ∙ ap change view

-- the disk as it reads is one of the images
abbrev pub Reads : Option (List ℕ) → Stops → Type 0
Reads told stops = (bytes : List ℕ) → told ≡ Some bytes → (sent : List (List ℕ)) × LeftNow stops bytes sent

module _ (journal : JournalState) (payload : List ℕ) (fits : IsPayload payload) (room : HasRoom journal.at (total_of payload))
    (told : Option (List ℕ)) (old new : Stops) (reads : Reads told old) where
  abbrev piece : List ℕ
  piece = group journal.chain payload ++ 0 ∷ []

  length-piece : length piece ≡ 37 + length payload
  length-piece = omega (arith, length-append (group journal.chain payload) (0 ∷ []), group_length journal.chain payload)

  pub may_append : (at : ℕ) (written : List ℕ) → at ≡ journal.at → written ≡ piece → Commits at written told old new → MayAppend payload journal old new
  may_append at written same is commits =
      let done : Commits journal.at piece told old new =
      subst (λ (n : ℕ). Commits n piece told old new) same (subst (λ (l : List ℕ). Commits at l told old new) is commits) in
      record {
        keeps = done.keeps;
        either = λ payloads stands image sent left.
            ⊎_elim
            (λ torn. inl (torn_behind journal payloads torn.0 (stands torn.0 sent torn.1) (length piece) image torn.2 (omega (arith, room, length-piece))))
            (λ gated.
            let pair = reads gated.0 gated.1 in
            subst (λ (l : List ℕ). IsJournal payloads l ⊎ IsJournal (payloads ++ payload ∷ []) l) (sym gated.2.1)
            (any_gate journal payloads gated.0 (stands gated.0 pair.0 pair.1) payload fits room gated.2.0))
            (done.each image sent left);
      }

  pub stands_more : (next : JournalState) (now : Option (List ℕ)) → next.at ≡ journal.at + total_of payload → next.chain ≡ chained journal.chain payload
      → (at : ℕ) (written : List ℕ) → at ≡ journal.at → written ≡ piece → now ≡ option_map (λ bytes. overwritten bytes at (1 ∷ written)) told → IsDurable now new
      → (payloads : List (List ℕ)) → Stands old journal payloads → Stands new next (payloads ++ payload ∷ [])
  stands_more next now place chain at written same is done durable payloads stands image sent left =
      let change : now ≡ option_map (λ bytes. overwritten bytes journal.at (1 ∷ piece)) told =
      done ∙ ap (λ (n : ℕ). option_map (λ bytes. overwritten bytes n (1 ∷ written)) told) same
      ∙ ap (λ (l : List ℕ). option_map (λ bytes. overwritten bytes journal.at (1 ∷ l)) told) is in
      let was = told_before (λ bytes. overwritten bytes journal.at (1 ∷ piece)) told image (sym change ∙ durable image sent left) in
      let pair = reads was.0 was.1 in
      let has = stands was.0 pair.0 pair.1 in
      record {
        is = subst (IsJournal (payloads ++ payload ∷ [])) (sym was.2) (open_gate journal payloads was.0 has payload fits room);
        place = omega (arith, place, has.place, gate_place-push payloads payload);
        linked = chain ∙ ap (λ (l : List ℕ). chained l payload) has.linked ∙ sym (chain_after-push no_chain payloads payload);
      }
