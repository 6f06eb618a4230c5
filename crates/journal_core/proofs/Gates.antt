-- The bytes of a journal, and what writes behind its closed gate and at it make of them.
use Rattle.std.proofs.Common.{zero, suc, ◌≡◌, inl, inr, ⊎_elim, ◌⊎◌, ℕ, ◌+◌, ◌≤◌, List, [], ◌∷◌, ◌++◌, length, take, drop, refl, sym, ◌∙◌, ap, subst, arith, append_assoc, length-append, length-take, length-drop, append-nil, take-append-drop}
use Rattle.std.specs.Prelude.{◌≢◌}
use Rattle.std.proofs.lemmas.List.{append_cancel_left, take_at}
use Rattle.plant.specs.Plant.{overwritten}
use Rattle.plant.specs.Tearing.{Torn}
use Rattle.journal_core.specs.Journal.{head, no_chain, IsPayload, IsJournal, HasJournal, JournalState, BreaksAt, begun_of, chain_after, group, opened, gate_place}
use Rattle.journal_core.specs.Mounting.{IsBegun, Refuses, RefusesRest, IsOutside, EndsShut}
use Rattle.journal_core.specs.declared.fault.MountFault.{MountFault}
use Rattle.journal_core.specs.declared.fault.MountFault.TheVariants.{NotBegun, BadHead, TooLong, Disk, NoMemory}
use Rattle.journal_core.proofs.Groups.{length-head, group_length, length-opened, opened-push, each_push, one_split}

-- an open gate is told from others
is_open : (gate : ℕ) → (gate ≡ 1) ⊎ (gate ≢ 1)
is_open zero = inr (λ same. omega (arith, same))
is_open (suc zero) = inl refl
is_open (suc (suc gate)) = inr (λ same. omega (arith, same))

pub journal_begins : (bytes : List ℕ) (payloads : List (List ℕ)) → IsJournal payloads bytes → take 16 bytes ≡ head
journal_begins bytes payloads is = ap (λ (l : List ℕ). take 16 l) is.whole ∙ take_at head (opened no_chain payloads ++ is.gate ∷ is.rest) 16 length-head

pub one_journal : (bytes : List ℕ) (left right : List (List ℕ)) → IsJournal left bytes → IsJournal right bytes → left ≡ right
one_journal bytes left right here there =
    (one_split no_chain left right here.gate there.gate here.rest there.rest (append_cancel_left head _ _ (sym here.whole ∙ there.whole))
    here.each there.each (inl here.shut) (inl there.shut)).0

pub same_journal : (bytes : List ℕ) (one other : JournalState) (left right : List (List ℕ)) → HasJournal one left bytes → HasJournal other right bytes
    → (left ≡ right) × (one.at ≡ other.at) × (one.chain ≡ other.chain)
same_journal bytes one other left right here there =
    let same = one_journal bytes left right here.is there.is in
    (same, here.place ∙ ap gate_place same ∙ sym there.place, here.linked ∙ ap (chain_after no_chain) same ∙ sym there.linked)

pub one_place : (bytes : List ℕ) (left right : ℕ) → BreaksAt bytes left → BreaksAt bytes right → left ≡ right
one_place bytes left right here there =
    let same = one_split no_chain here.payloads there.payloads 1 1 here.rest there.rest (append_cancel_left head _ _ (sym here.whole ∙ there.whole))
    here.each there.each (inr here.lacks) (inr there.lacks) in
    here.place ∙ ap gate_place same.0 ∙ sym there.place

pub breaks_no_journal : (bytes : List ℕ) (at : ℕ) (payloads : List (List ℕ)) → BreaksAt bytes at → IsJournal payloads bytes → ⊥
breaks_no_journal bytes at payloads breaks is =
    let same = one_split no_chain breaks.payloads payloads 1 is.gate breaks.rest is.rest (append_cancel_left head _ _ (sym breaks.whole ∙ is.whole))
    breaks.each is.each (inr breaks.lacks) (inl is.shut) in
    is.shut (sym same.1)

pub length-journal : (bytes : List ℕ) (payloads : List (List ℕ)) → IsJournal payloads bytes → gate_place payloads + 1 ≤ length bytes
length-journal bytes payloads is =
    omega (
      arith,
      ap length is.whole,
      length-append head (opened no_chain payloads ++ is.gate ∷ is.rest),
      length-head,
      length-append (opened no_chain payloads) (is.gate ∷ is.rest),
      length-opened no_chain payloads,
    )

pub not_refused : (bytes : List ℕ) (payloads : List (List ℕ)) (fault : MountFault) → IsJournal payloads bytes → Refuses fault bytes → IsOutside fault
not_refused bytes payloads NotBegun is refused =
    ⊎_elim (λ short. omega (arith, short, length-journal bytes payloads is)) (λ other. other (journal_begins bytes payloads is)) refused
not_refused bytes payloads (TooLong count) is refused = omega (arith, refused.2, is.fits)
not_refused bytes payloads (BadHead at) is refused = breaks_no_journal bytes at payloads refused.1 is
not_refused bytes payloads Disk is refused = tt
not_refused bytes payloads NoMemory is refused = tt

-- the head, and groups behind it
pub whole_journal : (bytes rest : List ℕ) (payloads : List (List ℕ)) → take 16 bytes ≡ head → rest ≡ drop 16 bytes → length bytes ≤ 67108864 → EndsShut payloads rest
    → IsJournal payloads bytes
whole_journal bytes rest payloads begins behind fits ends = record {
  gate = ends.gate;
  rest = ends.rest;
  whole = sym (take-append-drop 16 bytes) ∙ ap (λ (l : List ℕ). l ++ drop 16 bytes) begins ∙ ap (λ (l : List ℕ). head ++ l) (sym behind ∙ ends.whole);
  shut = ends.shut;
  each = ends.each;
  fits = fits;
}

-- why the bytes behind the head are refused, and the whole ones
pub refuses_whole : (fault : MountFault) (bytes rest : List ℕ) → IsBegun bytes → rest ≡ drop 16 bytes → length bytes ≤ 67108864 → RefusesRest fault rest → Refuses fault bytes
refuses_whole NotBegun bytes rest begun behind fits refuses = absurd refuses
refuses_whole (TooLong count) bytes rest begun behind fits refuses = absurd refuses
refuses_whole (BadHead at) bytes rest begun behind fits refuses =
    let whole : head ++ rest ≡ bytes =
    ap (λ (l : List ℕ). head ++ l) behind ∙ ap (λ (l : List ℕ). l ++ drop 16 bytes) (sym begun.begins) ∙ take-append-drop 16 bytes in
    (fits, subst (λ (l : List ℕ). BreaksAt l at) whole refuses)
refuses_whole Disk bytes rest begun behind fits refuses = tt
refuses_whole NoMemory bytes rest begun behind fits refuses = (begun, fits)

pub begun_is : (payload : List ℕ) → IsPayload payload → IsJournal (payload ∷ []) (begun_of payload)
unfolding begun_of
begun_is payload fits = record {
  gate = 0;
  rest = [];
  whole = ap (λ (l : List ℕ). head ++ 1 ∷ l) (ap (λ (l : List ℕ). l ++ 0 ∷ []) (sym (append-nil (group no_chain payload))));
  shut = λ same. omega (arith, same);
  each = (fits, tt);
  fits = omega (
    arith,
    length-append head (1 ∷ (group no_chain payload ++ 0 ∷ [])),
    length-head,
    length-append (group no_chain payload) (0 ∷ []),
    group_length no_chain payload,
    fits.fits,
  );
}

module _ (journal : JournalState) (payloads : List (List ℕ)) (bytes : List ℕ) (has : HasJournal journal payloads bytes) where
  abbrev front : List ℕ
  front = head ++ opened no_chain payloads

  behind_front : bytes ≡ front ++ has.is.gate ∷ has.is.rest
  behind_front = has.is.whole ∙ sym (append_assoc head (opened no_chain payloads) (has.is.gate ∷ has.is.rest))

  length-front : length front ≡ journal.at
  length-front = omega (arith, length-append head (opened no_chain payloads), length-head, length-opened no_chain payloads, has.place)

  pub gate_within : journal.at + 1 ≤ length bytes
  gate_within = omega (arith, length-journal bytes payloads has.is, has.place)

  take_front : take journal.at bytes ≡ front
  take_front = ap (λ (l : List ℕ). take journal.at l) behind_front ∙ take_at front (has.is.gate ∷ has.is.rest) journal.at length-front

  take_gate : take (journal.at + 1) bytes ≡ front ++ has.is.gate ∷ []
  take_gate =
      ap (λ (l : List ℕ). take (journal.at + 1) l) (behind_front ∙ sym (append_assoc front (has.is.gate ∷ []) has.is.rest))
      ∙ take_at (front ++ has.is.gate ∷ []) has.is.rest (journal.at + 1) (omega (arith, length-append front (has.is.gate ∷ []), length-front))

  -- the closed gate stands whatever is torn behind it
  pub torn_behind : (count : ℕ) (image : List ℕ) → Torn (journal.at + 1) count bytes image → journal.at + 1 + count ≤ 67108864 → IsJournal payloads image
  torn_behind count image torn room =
      let tail = drop (journal.at + 1) image in
      record {
        gate = has.is.gate;
        rest = tail;
        whole = sym (take-append-drop (journal.at + 1) image) ∙ ap (λ (l : List ℕ). l ++ tail) (torn.front ∙ take_gate)
            ∙ append_assoc front (has.is.gate ∷ []) tail ∙ append_assoc head (opened no_chain payloads) (has.is.gate ∷ tail);
        shut = has.is.shut;
        each = has.is.each;
        fits = omega (arith, torn.no_longer, has.is.fits, room);
      }

  module _ (payload : List ℕ) (fits : IsPayload payload) (room : journal.at + (37 + length payload) + 1 ≤ 67108864) where
    abbrev piece : List ℕ
    piece = group journal.chain payload ++ 0 ∷ []

    abbrev tail_of : ℕ → List ℕ
    tail_of gate = drop (journal.at + length (gate ∷ piece)) bytes

    -- the bytes with a group behind a gate that was written over
    gated : (gate : ℕ) → overwritten bytes journal.at (gate ∷ piece)
        ≡ head ++ (opened no_chain payloads ++ gate ∷ (group (chain_after no_chain payloads) payload ++ 0 ∷ tail_of gate))
    gated gate =
        let group' = group (chain_after no_chain payloads) payload in
        ap (λ (l : List ℕ). l ++ (gate ∷ piece) ++ tail_of gate) take_front
        ∙ append_assoc front (gate ∷ piece) (tail_of gate)
        ∙ append_assoc head (opened no_chain payloads) ((gate ∷ piece) ++ tail_of gate)
        ∙ ap (λ (l : List ℕ). head ++ (opened no_chain payloads ++ gate ∷ l))
        (append_assoc (group journal.chain payload) (0 ∷ []) (tail_of gate) ∙ ap (λ (l : List ℕ). group l payload ++ 0 ∷ tail_of gate) has.linked)

    size : (gate : ℕ) → length (overwritten bytes journal.at (gate ∷ piece)) ≤ 67108864
    size gate =
        omega (
          arith,
          length-append (take journal.at bytes ++ gate ∷ piece) (tail_of gate),
          length-take journal.at bytes,
          length-append (take journal.at bytes) (gate ∷ piece),
          length-append (group journal.chain payload) (0 ∷ []),
          group_length journal.chain payload,
          length-drop (journal.at + length (gate ∷ piece)) bytes,
          has.is.fits,
          room,
        )

    pub shut_gate : (gate : ℕ) → gate ≢ 1 → IsJournal payloads (overwritten bytes journal.at (gate ∷ piece))
    shut_gate gate shut = record {
      gate = gate;
      rest = group (chain_after no_chain payloads) payload ++ 0 ∷ tail_of gate;
      whole = gated gate;
      shut = shut;
      each = has.is.each;
      fits = size gate;
    }

    pub open_gate : IsJournal (payloads ++ payload ∷ []) (overwritten bytes journal.at (1 ∷ piece))
    open_gate = record {
      gate = 0;
      rest = tail_of 1;
      whole = gated 1 ∙ ap (λ (l : List ℕ). head ++ l) (sym (opened-push no_chain payloads payload (0 ∷ tail_of 1)));
      shut = λ same. omega (arith, same);
      each = each_push payloads payload has.is.each fits;
      fits = size 1;
    }

    pub any_gate : (gate : ℕ) → IsJournal payloads (overwritten bytes journal.at (gate ∷ piece)) ⊎ IsJournal (payloads ++ payload ∷ []) (overwritten bytes journal.at (gate ∷ piece))
    any_gate gate =
        ⊎_elim (λ same. inr (subst (λ (n : ℕ). IsJournal (payloads ++ payload ∷ []) (overwritten bytes journal.at (n ∷ piece))) (sym same) open_gate))
        (λ shut. inl (shut_gate gate shut)) (is_open gate)
