-- What a legal history holds for what was sent and signed.
use Rattle.std.proofs.Common.{◌≡◌, ℕ, zero, suc, ◌-◌, ◌<◌, ◌≤◌, ◌^◌, Bool, true, false, cond, eqb, ◌&&◌, List, [], ◌∷◌, ◌++◌, length, Option, Some, None, refl, sym, ap, subst, ◌∙◌, inl, inr, arith, append_assoc, append-nil}
use Rattle.std.specs.Prelude.{find, slice_get}
use Rattle.std.proofs.lemmas.Bool.{eqb-true}
use Rattle.std.specs.Option.{option_or}
use Rattle.std.proofs.lemmas.List.Folds.{find-append}
use Rattle.std.specs.List.{AllByRecursion}
use Rattle.gate_base.specs.declared.moment.Moment.{Moment}
use Rattle.gate_base.specs.declared.name.Target.{Target}
use Rattle.gate_base.specs.declared.sixteen.Sixteen.{Sixteen}
use Rattle.tbs_build.specs.Small.{IsSerial, IsShort}
use Rattle.gate_entries.specs.declared.entry.Entry.{Entry}
use Rattle.gate_entries.specs.declared.entry.What.{What}
use Rattle.gate_entries.specs.declared.entry.What.TheVariants.{Settings, Order, Challenge, Observation, CaaAnswer, Send, Signed, Blocked}
use Rattle.gate_entries.specs.Spelling.{IsWhat}
use Rattle.gate_machine.specs.History.{MeetsRow, Follows, EachFollows}
use Rattle.gate_machine.specs.Commands.Order.{IsGoodOrder}
use Rattle.gate_machine.specs.Commands.Finalize.{ComesToSigner, ComesSigned}
use Rattle.gate_machine.specs.Keys.{is_same}
use Rattle.gate_machine.specs.Sends.{is_order, is_own_order, own_order, is_send_for, sent_for, is_signed_for, signed_for, body_in, signature_in, targets_of, serial_in, send_with, order_in, IsGoodBody, HasOneBodyEach, small_bytes, IsNewBody, IsFresh, HasFreshSerial, TellsNewSerial, IsBodyOf}
use Rattle.gate_machine.proofs.Bodies.{serial_of_small, all_short}

-- ---- an entry that is found came behind those before it

pub record FoundAt (p : Entry → Bool) (before entries : List Entry) (entry : Entry) : Type 0 where
  pub front : List Entry
  pub rest : List Entry
  pub split : entries ≡ front ++ entry ∷ rest
  pub follows : Follows (before ++ front) entry
  pub none : find p front ≡ None
  pub holds : p entry ≡ true

pub some_is : {A : Type 0} (x y : A) → Some x ≡ Some y → x ≡ y
some_is x y is = cc is

pub none_some : {A : Type 0} {x : A} → None ≡ Some x → ⊥
none_some is = cc is

module _ (p : Entry → Bool) where
  at_first : (before : List Entry) (first : Entry) (entries : List Entry) (entry : Entry) (b : Bool) → p first ≡ b → EachFollows before (first ∷ entries)
      → cond b (Some first) (find p entries) ≡ Some entry
      → ((found : find p entries ≡ Some entry) → FoundAt p (before ++ first ∷ []) entries entry) → FoundAt p before (first ∷ entries) entry
  at_first before first entries entry true holds each is later =
      let same : first ≡ entry = some_is first entry is in
      subst (λ (e : Entry). FoundAt p before (first ∷ entries) e) same (record {
        front = [];
        rest = entries;
        split = refl;
        follows = subst (λ (b : List Entry). Follows b first) (sym (append-nil before)) each.0;
        none = refl;
        holds = holds;
      })
  at_first before first entries entry false fails each is later =
      let found = later is in
      record {
        front = first ∷ found.front;
        rest = found.rest;
        split = ap (λ (l : List Entry). first ∷ l) found.split;
        follows = subst (λ (b : List Entry). Follows b entry) (append_assoc before (first ∷ []) found.front) found.follows;
        none = rw fails found.none;
        holds = found.holds;
      }

  pub find_follows : (before entries : List Entry) (entry : Entry) → EachFollows before entries → find p entries ≡ Some entry → FoundAt p before entries entry
  find_follows before [] entry each is = absurd (none_some is)
  find_follows before (first ∷ entries) entry each is =
      at_first before first entries entry (p first) refl each is (λ found. find_follows (before ++ first ∷ []) entries entry each.1 found)

-- ---- orders

pub and_left : (x y : Bool) → (x && y) ≡ true → x ≡ true
and_left true y all = refl
and_left false y all = absurd cc

pub and_right : (x y : Bool) → (x && y) ≡ true → y ≡ true
and_right true y all = all
and_right false y all = absurd cc

-- an order broke no rule when it came
order_kept : (what : What) (before : List Entry) (caller : List ℕ) (moment : Moment) → is_order what ≡ true → MeetsRow before caller moment what → IsGoodOrder what
order_kept (Order key common days targets request) before caller moment is row = row.fields
order_kept (Settings bytes) before caller moment is row = absurd cc
order_kept (Challenge key order method target value thumb) before caller moment is row = absurd cc
order_kept (Observation key challenge seen_at seen) before caller moment is row = absurd cc
order_kept (CaaAnswer key order target seen_at answers) before caller moment is row = absurd cc
order_kept (Send number body) before caller moment is row = absurd cc
order_kept (Signed number signature) before caller moment is row = absurd cc
order_kept (Blocked key spki) before caller moment is row = absurd cc

-- the caller's own order, as it stands in the history
pub record OwnAt (caller : List ℕ) (number : ℕ) (history : List Entry) (order : Entry) : Type 0 where
  pub at : FoundAt (is_own_order caller number) [] history order
  pub own : is_same order.caller caller ≡ true
  pub number_is : order.number ≡ number
  pub is : is_order order.what ≡ true

pub own_at : (caller : List ℕ) (number : ℕ) (history : List Entry) (order : Entry) → EachFollows [] history → own_order caller number history ≡ Some order
    → OwnAt caller number history order
own_at caller number history order each own =
    let found = find_follows (is_own_order caller number) [] history order each own in
    let rest = and_right (is_same order.caller caller) (eqb order.number number && is_order order.what) found.holds in
    record {
      at = found;
      own = and_left (is_same order.caller caller) (eqb order.number number && is_order order.what) found.holds;
      number_is = eqb-true order.number number (and_left (eqb order.number number) (is_order order.what) rest);
      is = and_right (eqb order.number number) (is_order order.what) rest;
    }

pub own_keeps_rules : (caller : List ℕ) (number : ℕ) (history : List Entry) (order : Entry) → EachFollows [] history → own_order caller number history ≡ Some order
    → IsGoodOrder order.what
own_keeps_rules caller number history order each own =
    let found = own_at caller number history order each own in
    order_kept order.what found.at.front order.caller order.moment found.is found.at.follows.row

pub own_is_order : (caller : List ℕ) (number : ℕ) (history : List Entry) (order : Entry) → EachFollows [] history → own_order caller number history ≡ Some order
    → (is_order order.what ≡ true) × IsWhat order.what
own_is_order caller number history order each own =
    let found = own_at caller number history order each own in
    (found.is, found.at.follows.spelled.what)

pub targets_fit : (what : What) → IsWhat what → is_order what ≡ true → (length (targets_of what) ≤ 255) × AllByRecursion IsShort (targets_of what)
targets_fit (Order key common days targets request) is order = (omega (arith, is.are_targets.count), all_short targets is.are_targets.each)
targets_fit (Settings bytes) is order = absurd cc
targets_fit (Challenge key number method target value thumb) is order = absurd cc
targets_fit (Observation key challenge seen_at seen) is order = absurd cc
targets_fit (CaaAnswer key number target seen_at answers) is order = absurd cc
targets_fit (Send number body) is order = absurd cc
targets_fit (Signed number signature) is order = absurd cc
targets_fit (Blocked key spki) is order = absurd cc

-- ---- bodies that were sent

new_is_good : (before : List Entry) (targets : List Target) (body : List ℕ) → IsNewBody before targets body → length body < 2 ^ 16 → IsGoodBody body
new_is_good before targets body new few =
    let short : length (small_bytes new.serial targets) < 2 ^ 16 = subst (λ (b : List ℕ). length b < 2 ^ 16) new.spelled few in
    record {
      serial = ap length (ap serial_in new.spelled ∙ serial_of_small new.serial targets new.size short) ∙ new.size;
      few = few;
    }

row_of : (number : ℕ) (before : List Entry) (caller : List ℕ) (moment : Moment) (what : What) → is_send_for number what ≡ true → MeetsRow before caller moment what
    → IsWhat what → ComesToSigner before caller number (body_in what) × (length (body_in what) < 2 ^ 16)
row_of number before caller moment (Send order body) sends row is =
    (subst (λ (n : ℕ). ComesToSigner before caller n body) (eqb-true order number sends) row, is.1)
row_of number before caller moment (Settings bytes) sends row is = absurd cc
row_of number before caller moment (Challenge key order method target value thumb) sends row is = absurd cc
row_of number before caller moment (Observation key challenge seen_at seen) sends row is = absurd cc
row_of number before caller moment (CaaAnswer key order target seen_at answers) sends row is = absurd cc
row_of number before caller moment (Order key common days targets request) sends row is = absurd cc
row_of number before caller moment (Signed order signature) sends row is = absurd cc
row_of number before caller moment (Blocked key spki) sends row is = absurd cc

-- the row of an entry that is sent for the order
pub send_row : (number : ℕ) (before : List Entry) (entry : Entry) → is_send_for number entry.what ≡ true → Follows before entry
    → ComesToSigner before entry.caller number (body_in entry.what) × (length (body_in entry.what) < 2 ^ 16)
send_row number before entry sends follows = row_of number before entry.caller entry.moment entry.what sends follows.row follows.spelled.what

pub first_body : (number : ℕ) (before : List Entry) (order : Entry) (body : List ℕ) → IsBodyOf before number order body → sent_for number before ≡ None
    → IsNewBody before (targets_of order.what) body
first_body number before order body is none = elim is [
  | inl again ↦ absurd (none_some (sym none ∙ again.stands))
  | inr new ↦ new.1
]

-- the first body that was sent for an order
pub sent_is_good : (number : ℕ) (history : List Entry) (sent : Entry) → EachFollows [] history → sent_for number history ≡ Some sent → IsGoodBody (body_in sent.what)
sent_is_good number history sent each stands =
    let found = find_follows (λ (e : Entry). is_send_for number e.what) [] history sent each stands in
    let row = send_row number found.front sent found.holds found.follows in
    new_is_good found.front (targets_of row.0.order.what) (body_in sent.what)
    (first_body number found.front row.0.order (body_in sent.what) row.0.body_is found.none) row.1

-- ---- signatures

either : {A : Type 0} (p : A → Bool) (first : A) (b : Bool) → p first ≡ b → (items : List A) → (y : A) × (find p items ≡ Some y) → (y : A) × (find p (first ∷ items) ≡ Some y)
either p first true holds items later = (first, rw holds refl)
either p first false fails items later = (later.0, rw fails later.1)

find_has : {A : Type 0} (p : A → Bool) (items : List A) (i : ℕ) (x : A) → slice_get items i ≡ Some x → p x ≡ true → (y : A) × (find p items ≡ Some y)
find_has p [] i x at holds = absurd (none_some at)
find_has p (first ∷ items) zero x at holds = (x, rw (some_is first x at, holds) refl)
find_has p (first ∷ items) (suc i) x at holds = either p first (p first) refl items (find_has p items i x at holds)

pub found_before : {A : Type 0} (p : A → Bool) (front rest : List A) (y : A) → find p front ≡ Some y → find p (front ++ rest) ≡ Some y
found_before p front rest y is = find-append p front rest ∙ ap (λ (o : Option _). option_or o (find p rest)) is

pub signed_row : (number : ℕ) (before : List Entry) (caller : List ℕ) (moment : Moment) (what : What) → is_signed_for number what ≡ true
    → MeetsRow before caller moment what → ComesSigned before caller moment number (signature_in what)
signed_row number before caller moment (Signed order signature) signs row =
    subst (λ (n : ℕ). ComesSigned before caller moment n signature) (eqb-true order number signs) row
signed_row number before caller moment (Settings bytes) signs row = absurd cc
signed_row number before caller moment (Challenge key order method target value thumb) signs row = absurd cc
signed_row number before caller moment (Observation key challenge seen_at seen) signs row = absurd cc
signed_row number before caller moment (CaaAnswer key order target seen_at answers) signs row = absurd cc
signed_row number before caller moment (Order key common days targets request) signs row = absurd cc
signed_row number before caller moment (Send order body) signs row = absurd cc
signed_row number before caller moment (Blocked key spki) signs row = absurd cc

pub record WasSent (number : ℕ) (history : List Entry) (signed : Entry) : Type 0 where
  pub sent : Entry
  pub stands : sent_for number history ≡ Some sent
  pub some : 1 ≤ length (signature_in signed.what)
  pub most : length (signature_in signed.what) ≤ 1024

-- what is signed was sent
pub signed_was_sent : (number : ℕ) (history : List Entry) (signed : Entry) → EachFollows [] history → signed_for number history ≡ Some signed → WasSent number history signed
signed_was_sent number history signed each stands =
    let found = find_follows (λ (e : Entry). is_signed_for number e.what) [] history signed each stands in
    let row = signed_row number found.front signed.caller signed.moment signed.what found.holds found.follows.row in
    let sent = find_has (λ (e : Entry). is_send_for number e.what) found.front (length found.front - 1) row.last row.behind row.sent.sends in
    record {
      sent = sent.0;
      stands = ap (sent_for number) found.split ∙ found_before (λ (e : Entry). is_send_for number e.what) found.front (signed ∷ found.rest) sent.0 sent.1;
      some = row.size.some;
      most = row.size.most;
    }

-- ---- the order's one body

pub found_at : (p : Entry → Bool) (front rest : List Entry) (entry : Entry) → find p front ≡ None → p entry ≡ true → find p (front ++ entry ∷ rest) ≡ Some entry
found_at p front rest entry none holds = find-append p front (entry ∷ rest) ∙ rw (none, holds) refl

-- each body that was sent for an order is the first one
pub each_is_first : (number : ℕ) (front rest : List Entry) (entry : Entry) → is_send_for number entry.what ≡ true → Follows front entry
    → (sent : Entry) × (sent_for number (front ++ entry ∷ rest) ≡ Some sent) × (body_in entry.what ≡ body_in sent.what)
each_is_first number front rest entry sends follows =
    let row = send_row number front entry sends follows in
    elim row.0.body_is [
      | inl again ↦ (again.sent, found_before (λ (e : Entry). is_send_for number e.what) front (entry ∷ rest) again.sent again.stands, again.same)
      | inr new ↦ (entry, found_at (λ (e : Entry). is_send_for number e.what) front rest entry new.0 sends, refl)
    ]

pub follows_inside : (before front rest : List Entry) (entry : Entry) → EachFollows before (front ++ entry ∷ rest) → Follows (before ++ front) entry
follows_inside before [] rest entry each = subst (λ (b : List Entry). Follows b entry) (sym (append-nil before)) each.0
follows_inside before (first ∷ front) rest entry each =
    subst (λ (b : List Entry). Follows b entry) (append_assoc before (first ∷ []) front) (follows_inside (before ++ first ∷ []) front rest entry each.1)

-- ---- serial numbers of new bodies

pub new_serial_of : (before : List Entry) (targets : List Target) (body : List ℕ) → length body < 2 ^ 16 → (new : IsNewBody before targets body)
    → new.serial ≡ serial_in body
new_serial_of before targets body few new =
    let short : length (small_bytes new.serial targets) < 2 ^ 16 = subst (λ (b : List ℕ). length b < 2 ^ 16) new.spelled few in
    sym (ap serial_in new.spelled ∙ serial_of_small new.serial targets new.size short)

fresh_of : (before : List Entry) (targets : List Target) (body : List ℕ) → length body < 2 ^ 16 → IsNewBody before targets body → HasFreshSerial before body
fresh_of before targets body few new =
    let is = new_serial_of before targets body few new in
    (ap length (sym is) ∙ new.size, subst (λ (s : List ℕ). IsFresh before s) is (record { is_serial = new.is_serial; new = new.new }))

pub is_no_new : (before : List Entry) (targets : List Target) (body : List ℕ) → length body < 2 ^ 16 → ¬ (HasFreshSerial before body) → ¬ (IsNewBody before targets body)
is_no_new before targets body few none new = none (fresh_of before targets body few new)

-- with such a serial number, the new body is the one that is spelled with it
pub is_new : (before : List Entry) (targets : List Target) (body : List ℕ) (serial : Sixteen) → length body < 2 ^ 16 → TellsNewSerial before body (Some serial)
    → (small_bytes serial.0 targets ≡ body → IsNewBody before targets body) × (IsNewBody before targets body → small_bytes serial.0 targets ≡ body)
is_new before targets body serial few tells = (
  λ spelled. record {
    serial = serial.0;
    is_serial = subst IsSerial (sym tells.0) tells.1.1.is_serial;
    size = ap length tells.0 ∙ tells.1.0;
    spelled = sym spelled;
    new = ap (λ (s : List ℕ). send_with s before) tells.0 ∙ tells.1.1.new;
  },
  λ new. ap (λ (s : List ℕ). small_bytes s targets) (tells.0 ∙ sym (new_serial_of before targets body few new)) ∙ sym new.spelled,
)

-- ---- orders and their bodies

pub not_order : (what : What) → is_order what ≡ true
    → ((key : List ℕ) (common : Bool) (days : ℕ) (targets : List Target) (request : List ℕ) → what ≡ Order key common days targets request → ⊥) → ⊥
not_order (Order key common days targets request) is none = none key common days targets request refl
not_order (Settings bytes) is none = cc is
not_order (Challenge key order method target value thumb) is none = cc is
not_order (Observation key challenge seen_at seen) is none = cc is
not_order (CaaAnswer key order target seen_at answers) is none = cc is
not_order (Send number body) is none = cc is
not_order (Signed number signature) is none = cc is
not_order (Blocked key spki) is none = cc is

pub one_body_each : (history : List Entry) → EachFollows [] history → HasOneBodyEach history
one_body_each history each = λ front rest entry number split sends.
    let follows = follows_inside [] front rest entry (subst (λ (h : List Entry). EachFollows [] h) split each) in
    let first = each_is_first number front rest entry sends follows in
    (first.0, ap (sent_for number) split ∙ first.1, first.2)

pub body_is_good : (before : List Entry) (entry : Entry) → EachFollows [] before → Follows before entry → is_send_for (order_in entry.what) entry.what ≡ true
    → IsGoodBody (body_in entry.what)
body_is_good before entry each follows sends =
    let row = send_row (order_in entry.what) before entry sends follows in
    elim row.0.body_is [
      | inl again ↦ subst IsGoodBody (sym again.same) (sent_is_good (order_in entry.what) before again.sent each again.stands)
      | inr new ↦ new_is_good before (targets_of row.0.order.what) (body_in entry.what) new.1 row.1
    ]
