-- A body's members.
use Rattle.std.proofs.Common.{◌≡◌, ◌≢◌, ℕ, ◌≤◌, true, List, ◌∷◌, ◌++◌, length, codes, Option, Some, None, refl, sym, ap, ◌∙◌, append_assoc, arith}
use Rattle.std.specs.List.{list_all}
use Rattle.std.specs.Fmt.{decimal}
use Rattle.std.specs.Prelude.{Result, Ok, Err, IfOk}
use Rattle.base64.specs.declared.decode.DecodeError.{DecodeError}
use Rattle.std.proofs.lemmas.Bool.{leb-true}
use Rattle.std.proofs.lemmas.Fmt.{decimal_injective}
use Rattle.base64.specs.GeneralPurpose.{encode_of, decode_of, IsBytes}
use Rattle.base64.specs.Engines.{standard}
use Rattle.base64.proofs.EngineFacts.{decode_of-encode_of}
use Rattle.gate_entries.specs.declared.command.Command.{Command}
use Rattle.gate_entries.specs.declared.command.Command.TheVariants.{Order, Challenge, Observe, ObserveCaa, Finalize, Block}
use Rattle.wire_front.proofs.Truths.{left_holds, right_holds}
use Rattle.wire_front.specs.Message.{is_plain_byte, names_text, is_key, body_of, IsSaid}
use Rattle.wire_front.specs.Reading.{Reads, ◌>>=◌, field_at, behind, before, Texts, members_at, texts_of}
use Rattle.wire_front.proofs.CutLemmas.{is_other, bind_some, bind_is, field_is, field_found, behind_is, behind_found, before_is, before_found, decimal_free}
use Rattle.wire_front.proofs.NameLemmas.{bracket, quote, names_free, label_free, one_list}

-- a body of such members
abbrev pub members_text : Texts → List ℕ
members_text texts =
    codes "{\"common\":false,\"days\":" ++ (texts.0 ++ 44 ∷ (codes "\"key\":\"" ++ (texts.1 ++ 34 ∷ (codes ",\"names\":[" ++ (texts.2 ++ 93 ∷ (codes ",\"request\":\"" ++ (texts.3 ++ codes "\"}")))))))

pieces : (a b c d e f g h i : List ℕ) → a ++ b ++ c ++ d ++ e ++ f ++ g ++ h ++ i ≡ a ++ (b ++ (c ++ (d ++ (e ++ (f ++ (g ++ (h ++ i)))))))
pieces a b c d e f g h i = simp append_assoc

pub body_text : (command : Command) → IsSaid command → body_of command ≡ members_text (texts_of command)
unfolding body_of
body_text (Order key targets days common request) is =
    pieces (codes "{\"common\":false,\"days\":") (decimal days) (codes ",\"key\":\"") key (codes "\",\"names\":[") (names_text targets) (codes "],\"request\":\"")
    (encode_of standard request) (codes "\"}")
body_text (Finalize order) is = absurd is
body_text (Challenge key order target method) is = absurd is
body_text (Observe key challenge seen_at seen) is = absurd is
body_text (ObserveCaa key order target seen_at caa) is = absurd is
body_text (Block key spki) is = absurd is

-- texts without the byte that ends them
pub record AreFree (texts : Texts) : Type 0 where
  pub days : list_all (is_other 44) texts.0 ≡ true
  pub key : list_all (is_other 34) texts.1 ≡ true
  pub names : list_all (is_other 93) texts.2 ≡ true

pub members_again : (texts : Texts) → AreFree texts → members_at (members_text texts) ≡ Some texts
unfolding members_at
members_again texts free =
    let r5 = texts.3 ++ codes "\"}" in
    let r4 = codes ",\"request\":\"" ++ r5 in
    let r3 = codes ",\"names\":[" ++ (texts.2 ++ 93 ∷ r4) in
    let r2 = codes "\"key\":\"" ++ (texts.1 ++ 34 ∷ r3) in
    let r1 = codes "{\"common\":false,\"days\":" ++ (texts.0 ++ 44 ∷ r2) in
    bind_is (field_at (codes "{\"common\":false,\"days\":") 44 r1) (texts.0, r2) _ (Some texts) (field_is (codes "{\"common\":false,\"days\":") 44 texts.0 r2 free.days)
    (bind_is (field_at (codes "\"key\":\"") 34 r2) (texts.1, r3) _ (Some texts) (field_is (codes "\"key\":\"") 34 texts.1 r3 free.key)
    (bind_is (field_at (codes ",\"names\":[") 93 r3) (texts.2, r4) _ (Some texts) (field_is (codes ",\"names\":[") 93 texts.2 r4 free.names)
    (bind_is (behind (codes ",\"request\":\"") r4) r5 (λ (t : List ℕ). before (codes "\"}") t >>= λ request. Some (texts.0, texts.1, texts.2, request)) (Some texts)
    (behind_is (codes ",\"request\":\"") r5)
    (bind_is (before (codes "\"}") r5) texts.3 (λ (request : List ℕ). Some (texts.0, texts.1, texts.2, request)) (Some texts) (before_is texts.3 (codes "\"}")) refl))))

pub members_made : (body d r1 k r2 n r3 r4 q : List ℕ) → Some (d, r1) ≡ field_at (codes "{\"common\":false,\"days\":") 44 body
    → Some (k, r2) ≡ field_at (codes "\"key\":\"") 34 r1 → Some (n, r3) ≡ field_at (codes ",\"names\":[") 93 r2 → Some r4 ≡ behind (codes ",\"request\":\"") r3
    → Some q ≡ before (codes "\"}") r4 → Some (d, k, n, q) ≡ members_at body
unfolding members_at
members_made body d r1 k r2 n r3 r4 q e1 e2 e3 e4 e5 =
    sym (bind_is (field_at (codes "{\"common\":false,\"days\":") 44 body) (d, r1) _ (Some (d, k, n, q)) (sym e1)
    (bind_is (field_at (codes "\"key\":\"") 34 r1) (k, r2) _ (Some (d, k, n, q)) (sym e2)
    (bind_is (field_at (codes ",\"names\":[") 93 r2) (n, r3) _ (Some (d, k, n, q)) (sym e3)
    (bind_is (behind (codes ",\"request\":\"") r3) r4 (λ (t : List ℕ). before (codes "\"}") t >>= λ request. Some (d, k, n, request)) (Some (d, k, n, q)) (sym e4)
    (bind_is (before (codes "\"}") r4) q (λ (request : List ℕ). Some (d, k, n, request)) (Some (d, k, n, q)) (sym e5) refl)))))

abbrev some : {A : Type 0} → A → Option A
some x = Some x

some_is : {A : Type 0} (x y : A) → some x ≡ some y → x ≡ y
some_is x y e = cc

pub members_found : (body : List ℕ) (texts : Texts) → members_at body ≡ Some texts → body ≡ members_text texts
unfolding members_at
members_found body texts e =
    let days = bind_some (field_at (codes "{\"common\":false,\"days\":") 44 body) _ texts e in
    let key = bind_some (field_at (codes "\"key\":\"") 34 days.0.1) _ texts days.2 in
    let names = bind_some (field_at (codes ",\"names\":[") 93 key.0.1) _ texts key.2 in
    let rest = bind_some (behind (codes ",\"request\":\"") names.0.1) _ texts names.2 in
    let request = bind_some (before (codes "\"}") rest.0) _ texts rest.2 in
    let made : Texts = (days.0.0, key.0.0, names.0.0, request.0) in
    let is : made ≡ texts = some_is made texts request.2 in
    let e5 : rest.0 ≡ request.0 ++ codes "\"}" = before_found (codes "\"}") rest.0 request.0 request.1 in
    let e4 : names.0.1 ≡ codes ",\"request\":\"" ++ (request.0 ++ codes "\"}") = behind_found (codes ",\"request\":\"") names.0.1 rest.0 rest.1
    ∙ ap (λ (t : List ℕ). codes ",\"request\":\"" ++ t) e5 in
    let e3 : key.0.1 ≡ codes ",\"names\":[" ++ (names.0.0 ++ 93 ∷ (codes ",\"request\":\"" ++ (request.0 ++ codes "\"}"))) =
    field_found (codes ",\"names\":[") 93 key.0.1 names.0 names.1 ∙ ap (λ (t : List ℕ). codes ",\"names\":[" ++ (names.0.0 ++ 93 ∷ t)) e4 in
    let e2 = field_found (codes "\"key\":\"") 34 days.0.1 key.0 key.1 ∙ ap (λ (t : List ℕ). codes "\"key\":\"" ++ (key.0.0 ++ 34 ∷ t)) e3 in
    let e1 : body ≡ members_text made = field_found (codes "{\"common\":false,\"days\":") 44 body days.0 days.1
    ∙ ap (λ (t : List ℕ). codes "{\"common\":false,\"days\":" ++ (days.0.0 ++ 44 ∷ t)) e2 in
    e1 ∙ ap members_text is

-- ---- the members of an order

key_plain : (key : List ℕ) → is_key key ≡ true → list_all is_plain_byte key ≡ true
key_plain key is = right_holds _ _ is

are_free : (command : Command) → IsSaid command → AreFree (texts_of command)
are_free (Order key targets days common request) is = record {
  days = decimal_free 44 days (omega arith) (omega (arith, is.days_fit.1));
  key = label_free 34 quote key (key_plain key is.key_fits);
  names = names_free 93 bracket refl refl refl targets is.names_fit.each;
}
are_free (Finalize order) is = absurd is
are_free (Challenge key order target method) is = absurd is
are_free (Observe key challenge seen_at seen) is = absurd is
are_free (ObserveCaa key order target seen_at caa) is = absurd is
are_free (Block key spki) is = absurd is

-- a body is read to its texts
pub said_again : (body : List ℕ) (command : Command) → IsSaid command → body ≡ body_of command → members_at body ≡ Some (texts_of command)
said_again body command is same = ap members_at (same ∙ body_text command is) ∙ members_again (texts_of command) (are_free command is)

pub body_missed : (body : List ℕ) → None ≡ members_at body → (command : Command) → IsSaid command → body ≢ body_of command
body_missed body missed command is same =
    let there = said_again body command is same in
    absurd cc

pub body_other : (body : List ℕ) (texts : Texts) → Some texts ≡ members_at body → ((command : Command) → IsSaid command → texts ≢ texts_of command)
    → (command : Command) → IsSaid command → body ≢ body_of command
body_other body texts read none command is same = none command is (some_is texts (texts_of command) (read ∙ said_again body command is same))

pub body_found : (body : List ℕ) (texts : Texts) (command : Command) → Some texts ≡ members_at body → IsSaid command → texts ≡ texts_of command → body ≡ body_of command
body_found body texts command read is same = members_found body texts (sym read) ∙ ap members_text same ∙ sym (body_text command is)

-- ---- one order

abbrev ok : List ℕ → Result (List ℕ) DecodeError
ok x = Ok x

ok_is : (x y : List ℕ) → ok x ≡ ok y → x ≡ y
ok_is x y e = cc

one_request : (left right : List ℕ) → IsBytes left → IsBytes right → encode_of standard left ≡ encode_of standard right → left ≡ right
one_request left right is_left is_right same =
    ok_is left right (sym (decode_of-encode_of standard left refl is_left) ∙ ap (decode_of standard) same ∙ decode_of-encode_of standard right refl is_right)

pub one_order : (left right : Command) → IsSaid left → IsSaid right → body_of left ≡ body_of right → left ≡ right
one_order (Order key targets days common request) (Order key2 targets2 days2 common2 request2) is_left is_right same =
    let left : Command = Order key targets days common request in
    let right : Command = Order key2 targets2 days2 common2 request2 in
    let e : texts_of left ≡ texts_of right = some_is (texts_of left) (texts_of right) (sym (said_again (body_of right) left is_left (sym same)) ∙ said_again (body_of right) right is_right refl) in
    let e0 : key ≡ key2 = ap (λ (x : Texts). x.1) e in
    let e1 : targets ≡ targets2 = one_list targets targets2 is_left.names_fit is_right.names_fit (ap (λ (x : Texts). x.2) e) in
    let e2 : days ≡ days2 = decimal_injective days days2 (omega (arith, is_left.days_fit.1)) (omega (arith, is_right.days_fit.1)) (ap (λ (x : Texts). x.0) e) in
    let e3 : common ≡ common2 = is_left.plain ∙ sym is_right.plain in
    let e4 : request ≡ request2 = one_request request request2 is_left.request_fits.bytes is_right.request_fits.bytes (ap (λ (x : Texts). x.3) e) in
    rw (e0, e1, e2, e3, e4) refl
one_order (Order key targets days common request) (Finalize order) is_left is_right same = absurd is_right
one_order (Order key targets days common request) (Challenge key2 order2 target2 method2) is_left is_right same = absurd is_right
one_order (Order key targets days common request) (Observe key2 challenge2 seen_at2 seen2) is_left is_right same = absurd is_right
one_order (Order key targets days common request) (ObserveCaa key2 order2 target2 seen_at2 caa2) is_left is_right same = absurd is_right
one_order (Order key targets days common request) (Block key2 spki) is_left is_right same = absurd is_right
one_order (Finalize order) right is_left is_right same = absurd is_left
one_order (Challenge key order target method) right is_left is_right same = absurd is_left
one_order (Observe key challenge seen_at seen) right is_left is_right same = absurd is_left
one_order (ObserveCaa key order target seen_at caa) right is_left is_right same = absurd is_left
one_order (Block key spki) right is_left is_right same = absurd is_left

pub key_length : (key : List ℕ) → is_key key ≡ true → length key ≤ 64
key_length key is = leb-true (length key) 64 (right_holds _ _ (left_holds _ _ is))

pub body_read : {E : Type 0} (body : List ℕ) (texts : Texts) → Some texts ≡ members_at body → (r : Result (Option Command) E)
    → IfOk r (λ found. Reads texts_of IsSaid texts found) → IfOk r (λ found. Reads body_of IsSaid body found)
body_read body texts read (Ok (Some command)) is = (is.0, body_found body texts command read is.0 is.1)
body_read body texts read (Ok None) is = body_other body texts read is
body_read body texts read (Err e) is = tt
