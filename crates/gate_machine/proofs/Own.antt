-- What was sent and signed for an account's own order is the account's.
use Rattle.std.proofs.Common.{◌≡◌, ℕ, ◌-◌, Bool, true, false, cond, nat_eq, ◌&&◌, List, [], ◌∷◌, ◌++◌, length, Option, Some, refl, sym, ap, subst, ◌∙◌, arith, append_assoc}
use Rattle.std.specs.Prelude.{find, slice_get}
use Rattle.std.specs.Cmp.Lexicographic.{nat_list_eq_equiv, bytes_decides}
use Rattle.gate_base.specs.declared.profile.Role.{Role}
use Rattle.gate_base.specs.declared.profile.Role.TheVariants.{Account}
use Rattle.gate_entries.specs.declared.caller.Caller.{Caller}
use Rattle.gate_entries.specs.declared.entry.Entry.{Entry}
use Rattle.gate_machine.specs.History.{EachFollows}
use Rattle.gate_machine.specs.Keys.{is_same}
use Rattle.gate_machine.specs.Sends.{is_order, own_order, is_own_order, is_send_for, sent_for, is_signed_for, signed_for}
use Rattle.gate_machine.specs.Sight.{sees_as, sees, order_for, send_seen, signed_seen}
use Rattle.gate_machine.proofs.Sends.{some_is, own_at, send_row, signed_row, found_before, follows_inside}
use Rattle.gate_machine.proofs.Serials.{split_at}

itself : (bytes : List ℕ) → is_same bytes bytes ≡ true
itself bytes = nat_list_eq_equiv.refl bytes

same_is : (left right : List ℕ) → is_same left right ≡ true → left ≡ right
same_is left right is = (bytes_decides left right).0 is

-- ---- one entry has one number

at_front : (front rest : List Entry) (entry : Entry) → slice_get (front ++ entry ∷ rest) (length front) ≡ Some entry
at_front [] rest entry = refl
at_front (first ∷ front) rest entry = at_front front rest entry

one_at : (history front rest front' rest' : List Entry) (entry entry' : Entry) → history ≡ front ++ entry ∷ rest → history ≡ front' ++ entry' ∷ rest'
    → length front ≡ length front' → entry ≡ entry'
one_at history front rest front' rest' entry entry' split split' same =
    some_is entry entry' (sym (at_front front rest entry) ∙ ap (λ (h : List Entry). slice_get h (length front)) (sym split ∙ split')
    ∙ ap (λ (n : ℕ). slice_get (front' ++ entry' ∷ rest') n) same ∙ at_front front' rest' entry')

-- ---- whose the entries for an order are

module _ (caller : List ℕ) (number : ℕ) (history : List Entry) (order : Entry) (each : EachFollows [] history) (own : own_order caller number history ≡ Some order) where
  own_sends : (front rest : List Entry) (entry : Entry) → history ≡ front ++ entry ∷ rest → is_send_for number entry.what ≡ true → entry.caller ≡ caller
  own_sends front rest entry split sends =
      let follows = follows_inside [] front rest entry (subst (λ (h : List Entry). EachFollows [] h) split each) in
      let row = (send_row number front entry sends follows).0 in
      let later : own_order entry.caller number history ≡ Some row.order =
      ap (own_order entry.caller number) split ∙ found_before (is_own_order entry.caller number) front (entry ∷ rest) row.order row.own in
      let mine = own_at caller number history order each own in
      let theirs = own_at entry.caller number history row.order each later in
      let same : length mine.at.front ≡ length theirs.at.front =
      omega (arith, mine.at.follows.in_order.numbered, theirs.at.follows.in_order.numbered, mine.number_is, theirs.number_is) in
      let one : order ≡ row.order = one_at history mine.at.front mine.at.rest theirs.at.front theirs.at.rest order row.order mine.at.split theirs.at.split same in
      sym (same_is row.order.caller entry.caller theirs.own) ∙ ap (λ (e : Entry). e.caller) (sym one) ∙ same_is order.caller caller mine.own

  own_signs : (front rest : List Entry) (entry : Entry) → history ≡ front ++ entry ∷ rest → is_signed_for number entry.what ≡ true → entry.caller ≡ caller
  own_signs front rest entry split signs =
      let follows = follows_inside [] front rest entry (subst (λ (h : List Entry). EachFollows [] h) split each) in
      let row = signed_row number front entry.caller entry.moment entry.what signs follows.row in
      let before = split_at front (length front - 1) row.last row.behind in
      let all : history ≡ before.front ++ row.last ∷ (before.rest ++ entry ∷ rest) =
      split ∙ ap (λ (h : List Entry). h ++ entry ∷ rest) before.split ∙ append_assoc before.front (row.last ∷ before.rest) (entry ∷ rest) in
      sym row.sent.same_caller ∙ own_sends before.front (before.rest ++ entry ∷ rest) row.last all row.sent.sends

-- ---- two tests that agree find the same

agrees : (a b : Bool) → (b ≡ true → a ≡ true) → (a && b) ≡ b
agrees true b holds = refl
agrees false true holds = absurd (cc (holds refl))
agrees false false holds = refl

find_agrees : (p q : Entry → Bool) (all front entries : List Entry) → all ≡ front ++ entries
    → ((before behind : List Entry) (entry : Entry) → all ≡ before ++ entry ∷ behind → p entry ≡ q entry) → find p entries ≡ find q entries
find_agrees p q all front [] split agree = refl
find_agrees p q all front (entry ∷ entries) split agree =
    let more : all ≡ (front ++ entry ∷ []) ++ entries = split ∙ sym (append_assoc front (entry ∷ []) entries) in
    let later = find_agrees p q all (front ++ entry ∷ []) entries more agree in
    let here : p entry ≡ q entry = agree front entries entry split in
    ap (λ (b : Bool). cond b (Some entry) (find p entries)) here ∙ ap (λ (o : Option Entry). cond (q entry) (Some entry) o) later

-- ---- what an account sees for its own order is all that there is

order_as : (caller : Caller) (number : ℕ) (history : List Entry) → caller.role ≡ Account → order_for caller number history ≡ own_order caller.id number history
order_as caller number history account =
    ap (λ (r : Role). find (λ (e : Entry). sees_as r caller.id e && (nat_eq e.number number && is_order e.what)) history) account

module _ (caller : Caller) (number : ℕ) (history : List Entry) (order : Entry) (account : caller.role ≡ Account) (each : EachFollows [] history)
    (stands : order_for caller number history ≡ Some order) where
  pub seen_own : own_order caller.id number history ≡ Some order
  seen_own = sym (order_as caller number history account) ∙ stands

  seen : (entry : Entry) → entry.caller ≡ caller.id → sees caller entry ≡ true
  seen entry is = ap (λ (r : Role). sees_as r caller.id entry) account ∙ ap (λ (c : List ℕ). is_same c caller.id) is ∙ itself caller.id

  pub send_as : send_seen caller number history ≡ sent_for number history
  send_as =
      find_agrees (λ e. sees caller e && is_send_for number e.what) (λ e. is_send_for number e.what) history [] history refl
      (λ before behind entry split. agrees (sees caller entry) (is_send_for number entry.what)
      (λ sends. seen entry (own_sends caller.id number history order each seen_own before behind entry split sends)))

  pub signed_as : signed_seen caller number history ≡ signed_for number history
  signed_as =
      find_agrees (λ e. sees caller e && is_signed_for number e.what) (λ e. is_signed_for number e.what) history [] history refl
      (λ before behind entry split. agrees (sees caller entry) (is_signed_for number entry.what)
      (λ signs. seen entry (own_signs caller.id number history order each seen_own before behind entry split signs)))
