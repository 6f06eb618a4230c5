-- A message at the front.
use Rattle.std.proofs.Common.{◌≡◌, ◌≢◌, ℕ, ◌≤◌, List, [], ◌∷◌, ◌++◌, length, codes, refl, sym, ap, subst, ◌∙◌, append_assoc, append-nil, arith, get_or}
use Rattle.std.specs.List.{AllByRecursion}
use Rattle.std.specs.Fmt.{decimal}
use Rattle.base64.specs.GeneralPurpose.{encode_of}
use Rattle.base64.specs.Engines.{standard}
use Rattle.gate_base.specs.declared.name.Target.{Target}
use Rattle.gate_base.specs.declared.name.Target.TheVariants.{Dns, Ip}
use Rattle.gate_entries.specs.declared.command.Command.{Command}
use Rattle.gate_entries.specs.declared.command.Command.TheVariants.{Order, Challenge, Observe, ObserveCaa, Finalize, Block}
use Rattle.gate_entries.specs.Target.{IsTarget}
use Rattle.gate_entries.specs.Command.{IsCommand}
use Rattle.wire_front.specs.declared.message.Found.{Found}
use Rattle.wire_front.specs.declared.message.Found.TheVariants as found
use Rattle.wire_front.specs.Message.{body_of, framed, finalize_text, names_text, IsDomain, IsSaid, AsksOrder, AsksFinalize, IsMessageOf, HasNoMessage, BeginsWith, TellsMessage}
use Rattle.wire_front.specs.Reading.{HasNoOrder, TellsOrder, StartsWithFrame, StartsWithFinalize, ReadsFinalize, IsSize}
use Rattle.wire_front.proofs.FrameLemmas.{framed_parts, one_frame}
use Rattle.wire_front.proofs.FinalizeLemmas.{one_finalize}
use Rattle.wire_front.proofs.MemberLemmas.{one_order, key_length}

abbrev body_begins : List ℕ
body_begins = codes "{\"common\":false,\"days\":"

starts_so : (a b c d e f g h i : List ℕ) → a ++ b ++ c ++ d ++ e ++ f ++ g ++ h ++ i ≡ a ++ (b ++ (c ++ (d ++ (e ++ (f ++ (g ++ (h ++ i)))))))
starts_so a b c d e f g h i = simp append_assoc

-- a body is never empty
body_some : (command : Command) → IsSaid command → 1 ≤ length (body_of command)
unfolding body_of
body_some (Order key targets days common request) is = omega (
  arith,
  ap length (starts_so body_begins (decimal days) (codes ",\"key\":\"") key (codes "\",\"names\":[")
      (names_text targets) (codes "],\"request\":\"") (encode_of standard request) (codes "\"}")),
)
body_some (Finalize order) is = absurd is
body_some (Challenge key order target method) is = absurd is
body_some (Observe key challenge seen_at seen) is = absurd is
body_some (ObserveCaa key order target seen_at caa) is = absurd is
body_some (Block key spki) is = absurd is

body_size : (bytes : List ℕ) (command : Command) → AsksOrder bytes command → IsSize (length (body_of command))
body_size bytes command asks = (body_some command asks.said, asks.fits)

-- ---- one message

-- bytes that ask for an order, and further bytes
framed_front : (bytes rest : List ℕ) (command : Command) (asks : AsksOrder bytes command) → bytes ++ rest ≡ framed (body_of command) ++ rest
framed_front bytes rest command asks = ap (λ (t : List ℕ). t ++ rest) asks.whole

one_order_message : (left right : Command) (a b r s : List ℕ) → AsksOrder a left → AsksOrder b right → a ++ r ≡ b ++ s → (left ≡ right) × (a ≡ b) × (r ≡ s)
one_order_message left right a b r s is_left is_right same =
    let e = one_frame (body_of left) (body_of right) r s (body_size a left is_left) (body_size b right is_right)
    (sym (framed_front a r left is_left) ∙ same ∙ framed_front b s right is_right) in
    (one_order left right is_left.said is_right.said e.0, is_left.whole ∙ ap framed e.0 ∙ sym is_right.whole, e.1)

-- behind `POST /orders` stands a blank in the one form, and a slash in the other
apart : (command : Command) (order : ℕ) (a b r s : List ℕ) → AsksOrder a command → AsksFinalize b order → a ++ r ≡ b ++ s → ⊥
apart command order a b r s is_order is_finalize same =
    let e : framed (body_of command) ++ r ≡ finalize_text is_finalize.digits ++ s =
    sym (framed_front a r command is_order) ∙ same ∙ ap (λ (t : List ℕ). t ++ s) is_finalize.whole in
    let byte : 32 ≡ 47 = ap (λ (t : List ℕ). get_or t 12 0) e in
    absurd (omega (arith, byte))

one_finalize_message : (m n : ℕ) (a b r s : List ℕ) → AsksFinalize a m → AsksFinalize b n → a ++ r ≡ b ++ s → (Finalize m ≡ Finalize n) × (a ≡ b) × (r ≡ s)
one_finalize_message m n a b r s is_left is_right same =
    let e = one_finalize a b r s m n is_left is_right same in
    (ap (λ (k : ℕ). Finalize k) e.0, e.1, e.2)

pub one_message : (left right : Command) (a b r s : List ℕ) → IsMessageOf a left → IsMessageOf b right → a ++ r ≡ b ++ s → (left ≡ right) × (a ≡ b) × (r ≡ s)
one_message (Order key targets days common request) (Order key2 targets2 days2 common2 request2) a b r s is_left is_right same =
    one_order_message (Order key targets days common request) (Order key2 targets2 days2 common2 request2) a b r s is_left is_right same
one_message (Order key targets days common request) (Finalize n) a b r s is_left is_right same =
    absurd (apart (Order key targets days common request) n a b r s is_left is_right same)
one_message (Order key targets days common request) (Challenge key2 order2 target2 method2) a b r s is_left is_right same = absurd is_right
one_message (Order key targets days common request) (Observe key2 challenge2 seen_at2 seen2) a b r s is_left is_right same = absurd is_right
one_message (Order key targets days common request) (ObserveCaa key2 order2 target2 seen_at2 caa2) a b r s is_left is_right same = absurd is_right
one_message (Order key targets days common request) (Block key2 spki) a b r s is_left is_right same = absurd is_right
one_message (Finalize m) (Order key targets days common request) a b r s is_left is_right same =
    absurd (apart (Order key targets days common request) m b a s r is_right is_left (sym same))
one_message (Finalize m) (Finalize n) a b r s is_left is_right same = one_finalize_message m n a b r s is_left is_right same
one_message (Finalize m) (Challenge key order2 target2 method2) a b r s is_left is_right same = absurd is_right
one_message (Finalize m) (Observe key challenge2 seen_at2 seen2) a b r s is_left is_right same = absurd is_right
one_message (Finalize m) (ObserveCaa key order2 target2 seen_at2 caa2) a b r s is_left is_right same = absurd is_right
one_message (Finalize m) (Block key spki) a b r s is_left is_right same = absurd is_right
one_message (Challenge key order target method) right a b r s is_left is_right same = absurd is_left
one_message (Observe key challenge seen_at seen) right a b r s is_left is_right same = absurd is_left
one_message (ObserveCaa key order target seen_at caa) right a b r s is_left is_right same = absurd is_left
one_message (Block key spki) right a b r s is_left is_right same = absurd is_left

-- a message has bytes
pub some_message : (bytes : List ℕ) (command : Command) → IsMessageOf bytes command → 1 ≤ length bytes
some_message bytes (Order key targets days common request) asks = omega (arith, ap length asks.whole)
some_message bytes (Finalize order) asks = omega (arith, ap length asks.whole)
some_message bytes (Challenge key order target method) asks = absurd asks
some_message bytes (Observe key challenge seen_at seen) asks = absurd asks
some_message bytes (ObserveCaa key order target seen_at caa) asks = absurd asks
some_message bytes (Block key spki) asks = absurd asks

-- ---- the order at the front

targets_spelled : (targets : List Target) → AllByRecursion IsDomain targets → AllByRecursion IsTarget targets
targets_spelled [] are = tt
targets_spelled (Dns name ∷ targets) are = (are.0.0, targets_spelled targets are.1)
targets_spelled (Ip address ∷ targets) are = absurd are.0

said_spelled : (command : Command) → IsSaid command → IsCommand command
said_spelled (Order key targets days common request) is = record {
  key_fits = omega (arith, key_length key is.key_fits);
  are_targets = record { count = omega (arith, is.names_fit.fit); each = targets_spelled targets is.names_fit.each };
  request_fits = omega (arith, is.request_fits.fits);
}
said_spelled (Finalize order) is = absurd is
said_spelled (Challenge key order target method) is = absurd is
said_spelled (Observe key challenge seen_at seen) is = absurd is
said_spelled (ObserveCaa key order target seen_at caa) is = absurd is
said_spelled (Block key spki) is = absurd is

asks_order : (bytes : List ℕ) (command : Command) → AsksOrder bytes command → IsMessageOf bytes command
asks_order bytes (Order key targets days common request) asks = asks
asks_order bytes (Finalize order) asks = absurd asks.said
asks_order bytes (Challenge key order target method) asks = absurd asks.said
asks_order bytes (Observe key challenge seen_at seen) asks = absurd asks.said
asks_order bytes (ObserveCaa key order target seen_at caa) asks = absurd asks.said
asks_order bytes (Block key spki) asks = absurd asks.said

pub order_found : (bytes body behind : List ℕ) (command : Command) → IsSize (length body) → bytes ≡ framed body ++ behind → IsSaid command → body ≡ body_of command
    → BeginsWith bytes command (length behind)
order_found bytes body behind command is whole said same = record {
  message = framed body;
  asks = asks_order (framed body) command (record {
    said = said;
    fits = subst (λ (t : List ℕ). length t ≤ 65536) same is.1;
    whole = ap framed same;
  });
  spelled = said_spelled command said;
  rest = behind;
  whole = whole;
  behind = refl;
}

starts_with_order : (bytes message rest : List ℕ) (command : Command) → AsksOrder message command → bytes ≡ message ++ rest → StartsWithFrame bytes
starts_with_order bytes message rest command asks same =
    record { body = body_of command; rest = rest; is = body_size message command asks; whole = same ∙ framed_front message rest command asks }

pub no_order : (bytes : List ℕ) → (StartsWithFrame bytes → ⊥) → HasNoOrder bytes
no_order bytes none = λ message rest command asks same. none (starts_with_order bytes message rest command asks same)

pub never_order : (bytes : List ℕ) → ((more : List ℕ) → StartsWithFrame (bytes ++ more) → ⊥) → (more : List ℕ) → HasNoOrder (bytes ++ more)
never_order bytes none = λ more. no_order (bytes ++ more) (none more)

-- where no order ever comes there are some bytes
pub some_bytes : (bytes : List ℕ) → ((more : List ℕ) → StartsWithFrame (bytes ++ more) → ⊥) → 1 ≤ length bytes
some_bytes [] none = absurd (none (framed (0 ∷ []) ++ []) (record { body = 0 ∷ []; rest = []; is = (omega arith, omega arith); whole = refl }))
some_bytes (byte ∷ bytes) none = omega arith

pub refused_body : (bytes body behind : List ℕ) → IsSize (length body) → bytes ≡ framed body ++ behind → ((command : Command) → IsSaid command → body ≢ body_of command)
    → (1 ≤ length bytes) × ((more : List ℕ) → HasNoOrder (bytes ++ more))
refused_body bytes body behind is whole none = (
  omega (arith, ap length whole, ap length (framed_parts body behind)),
  λ more message rest command asks same.
      let longer : bytes ++ more ≡ framed body ++ (behind ++ more) = ap (λ (t : List ℕ). t ++ more) whole ∙ append_assoc (framed body) behind more in
      none command asks.said
      (one_frame body (body_of command) (behind ++ more) rest is (body_size message command asks) (sym longer ∙ same ∙ framed_front message rest command asks)).0,
)

-- ---- the message at the front, of either form

pub finalize_found : (bytes : List ℕ) (order : ℕ) (behind : List ℕ) → ReadsFinalize bytes order behind → BeginsWith bytes (Finalize order) (length behind)
finalize_found bytes order behind reads = record { message = reads.message; asks = reads.asks; spelled = tt; rest = behind; whole = reads.whole; behind = refl }

pub no_message : (bytes : List ℕ) → (StartsWithFinalize bytes → ⊥) → HasNoOrder bytes → HasNoMessage bytes
no_message bytes none no_orders message rest (Order key targets days common request) asks same = no_orders message rest (Order key targets days common request) asks same
no_message bytes none no_orders message rest (Finalize order) asks same = none (record { order = order; rest = rest; reads = record { message = message; asks = asks; whole = same } })
no_message bytes none no_orders message rest (Challenge key order target method) asks same = absurd asks
no_message bytes none no_orders message rest (Observe key challenge seen_at seen) asks same = absurd asks
no_message bytes none no_orders message rest (ObserveCaa key order target seen_at caa) asks same = absurd asks
no_message bytes none no_orders message rest (Block key spki) asks same = absurd asks

nothing_more : (Begins : List ℕ → Type 0) (bytes : List ℕ) → ((more : List ℕ) → Begins (bytes ++ more) → ⊥) → Begins bytes → ⊥
nothing_more Begins bytes none begins = none [] (subst Begins (sym (append-nil bytes)) begins)

pub told : (bytes : List ℕ) (what : Found) → ((more : List ℕ) → StartsWithFinalize (bytes ++ more) → ⊥) → TellsOrder bytes what → TellsMessage bytes what
told bytes (found.Message command left) none tells = tells
told bytes found.More none tells = no_message bytes (nothing_more StartsWithFinalize bytes none) tells
told bytes found.Never none tells = (tells.0, λ more. no_message (bytes ++ more) (none more) (tells.1 more))
told bytes found.NoMemory none tells = tt

-- where no order ever comes, but the other form may
pub never_an_order : (bytes : List ℕ) → (StartsWithFinalize bytes → ⊥) → TellsOrder bytes found.Never → HasNoMessage bytes
never_an_order bytes none tells = no_message bytes none (subst HasNoOrder (append-nil bytes) (tells.1 []))

pub told_so_far : (bytes : List ℕ) (what : Found) → (StartsWithFinalize bytes → ⊥) → (what ≡ found.Never → ⊥) → TellsOrder bytes what → TellsMessage bytes what
told_so_far bytes (found.Message command left) none other tells = tells
told_so_far bytes found.More none other tells = no_message bytes none tells
told_so_far bytes found.Never none other tells = absurd (other refl)
told_so_far bytes found.NoMemory none other tells = tt
