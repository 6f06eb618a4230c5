-- Which order a serial number belongs to.
use Rattle.std.proofs.Common.{◌≡◌, ℕ, zero, suc, ◌<◌, ◌^◌, true, List, [], ◌∷◌, ◌++◌, length, Some, None, sym, ap, subst, ◌∙◌, inl, inr}
use Rattle.std.specs.Prelude.{slice_get}
use Rattle.std.specs.Cmp.Lexicographic.{nat_list_eq_equiv}
use Rattle.std.proofs.lemmas.Bool.{eqb-true}
use Rattle.gate_base.specs.declared.name.Target.{Target}
use Rattle.gate_entries.specs.declared.entry.Entry.{Entry}
use Rattle.gate_entries.specs.declared.entry.What.{What}
use Rattle.gate_entries.specs.declared.entry.What.TheVariants.{Settings, Order, Challenge, Observation, CaaAnswer, Send, Signed, Blocked}
use Rattle.gate_machine.specs.History.{EachFollows}
use Rattle.gate_machine.specs.Keys.{is_same}
use Rattle.gate_machine.specs.Sends.{is_send_for, order_in, body_in, targets_of, serial_in, has_serial, send_with, IsNewBody, IsSentBody}
use Rattle.gate_machine.specs.Serials.{IsSendAt, HasOneOrderEach}
use Rattle.gate_machine.proofs.Sends.{some_is, none_some, find_follows, follows_inside, send_row, first_body, found_before, found_at, new_serial_of}

-- ---- an entry at a place stands between those before it and those behind it

pub record SplitAt (history : List Entry) (entry : Entry) : Type 0 where
  pub front : List Entry
  pub rest : List Entry
  pub split : history ≡ front ++ entry ∷ rest

pub split_at : (history : List Entry) (place : ℕ) (entry : Entry) → slice_get history place ≡ Some entry → SplitAt history entry
split_at [] place entry is = absurd (none_some is)
split_at (first ∷ history) zero entry is = record { front = []; rest = history; split = ap (λ (e : Entry). e ∷ history) (some_is first entry is) }
split_at (first ∷ history) (suc place) entry is =
    let later = split_at history place entry is in
    record { front = first ∷ later.front; rest = later.rest; split = ap (λ (l : List Entry). first ∷ l) later.split }

each_before : (before front rest : List Entry) → EachFollows before (front ++ rest) → EachFollows before front
each_before before [] rest each = tt
each_before before (first ∷ front) rest each = (each.0, each_before (before ++ first ∷ []) front rest each.1)

-- ---- the first body with its serial number

itself : (bytes : List ℕ) → is_same bytes bytes ≡ true
itself bytes = nat_list_eq_equiv.refl bytes

own_serial : (order : ℕ) (what : What) → is_send_for order what ≡ true → has_serial (serial_in (body_in what)) what ≡ true
own_serial order (Send number body) sends = itself (serial_in body)
own_serial order (Settings bytes) sends = absurd cc
own_serial order (Challenge key number method target value thumb) sends = absurd cc
own_serial order (Observation key challenge seen_at seen) sends = absurd cc
own_serial order (CaaAnswer key number target seen_at answers) sends = absurd cc
own_serial order (Order key common days targets request) sends = absurd cc
own_serial order (Signed number signature) sends = absurd cc
own_serial order (Blocked key spki) sends = absurd cc

own_order_in : (order : ℕ) (what : What) → is_send_for order what ≡ true → order_in what ≡ order
own_order_in order (Send number body) sends = eqb-true number order sends
own_order_in order (Settings bytes) sends = absurd cc
own_order_in order (Challenge key number method target value thumb) sends = absurd cc
own_order_in order (Observation key challenge seen_at seen) sends = absurd cc
own_order_in order (CaaAnswer key number target seen_at answers) sends = absurd cc
own_order_in order (Order key common days targets request) sends = absurd cc
own_order_in order (Signed number signature) sends = absurd cc
own_order_in order (Blocked key spki) sends = absurd cc

-- the first entry with the serial number sent a body for the order
record BelongsTo (history : List Entry) (serial : List ℕ) (order : ℕ) : Type 0 where
  first : Entry
  stands : send_with serial history ≡ Some first
  order_is : order_in first.what ≡ order

new_belongs : (front rest : List Entry) (entry : Entry) (order : ℕ) (targets : List Target) → is_send_for order entry.what ≡ true → length (body_in entry.what) < 2 ^ 16
    → IsNewBody front targets (body_in entry.what) → BelongsTo (front ++ entry ∷ rest) (serial_in (body_in entry.what)) order
new_belongs front rest entry order targets sends few new =
    let serial = serial_in (body_in entry.what) in
    let none : send_with serial front ≡ None = ap (λ (s : List ℕ). send_with s front) (sym (new_serial_of front targets (body_in entry.what) few new)) ∙ new.new in
    record {
      first = entry;
      stands = found_at (λ (e : Entry). has_serial serial e.what) front rest entry none (own_serial order entry.what sends);
      order_is = own_order_in order entry.what sends;
    }

again_belongs : (front rest : List Entry) (entry : Entry) (order : ℕ) (body : List ℕ) → EachFollows [] front → IsSentBody front order body
    → BelongsTo (front ++ entry ∷ rest) (serial_in body) order
again_belongs front rest entry order body each again =
    let found = find_follows (λ (e : Entry). is_send_for order e.what) [] front again.sent each again.stands in
    let row = send_row order found.front again.sent found.holds found.follows in
    let new = first_body order found.front row.0.order (body_in again.sent.what) row.0.body_is found.none in
    let earlier : BelongsTo (found.front ++ again.sent ∷ found.rest) (serial_in (body_in again.sent.what)) order =
    new_belongs found.front found.rest again.sent order (targets_of row.0.order.what) found.holds row.1 new in
    let here : BelongsTo front (serial_in body) order = subst (λ (s : List ℕ). BelongsTo front s order) (ap serial_in (sym again.same))
    (subst (λ (h : List Entry). BelongsTo h (serial_in (body_in again.sent.what)) order) (sym found.split) earlier) in
    record {
      first = here.first;
      stands = found_before (λ (e : Entry). has_serial (serial_in body) e.what) front (entry ∷ rest) here.first here.stands;
      order_is = here.order_is;
    }

belongs : (history : List Entry) (place order : ℕ) (entry : Entry) → EachFollows [] history → IsSendAt history place order entry
    → BelongsTo history (serial_in (body_in entry.what)) order
belongs history place order entry each at =
    let cut = split_at history place entry at.stands in
    let all : EachFollows [] (cut.front ++ entry ∷ cut.rest) = subst (λ (h : List Entry). EachFollows [] h) cut.split each in
    let row = send_row order cut.front entry at.sends (follows_inside [] cut.front cut.rest entry all) in
    let here : BelongsTo (cut.front ++ entry ∷ cut.rest) (serial_in (body_in entry.what)) order = elim row.0.body_is [
      | inl again ↦ again_belongs cut.front cut.rest entry order (body_in entry.what) (each_before [] cut.front (entry ∷ cut.rest) all) again
      | inr new ↦ new_belongs cut.front cut.rest entry order (targets_of row.0.order.what) at.sends row.1 new.1
    ] in
    subst (λ (h : List Entry). BelongsTo h (serial_in (body_in entry.what)) order) (sym cut.split) here

pub one_order_each : (history : List Entry) → EachFollows [] history → HasOneOrderEach history
one_order_each history each = λ place place' order order' entry entry' at at' same.
    let one = belongs history place order entry each at in
    let other = belongs history place' order' entry' each at' in
    let first : one.first ≡ other.first = some_is one.first other.first (sym one.stands ∙ ap (λ (s : List ℕ). send_with s history) same ∙ other.stands) in
    sym one.order_is ∙ ap (λ (e : Entry). order_in e.what) first ∙ other.order_is
