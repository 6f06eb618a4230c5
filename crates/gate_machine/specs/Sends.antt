-- What was sent to the signer, and what may be sent.
use Rattle.std.specs.Prelude.{◌≡◌, ◌≢◌, ℕ, ◌+◌, ◌-◌, ◌%◌, ◌<◌, ◌^◌, ◌⊎◌, List, [], ◌∷◌, ◌++◌, length, take, drop, Bool, true, false, nat_eq, nat_lt, ◌&&◌, if◌then◌else◌, Option, Some, None, find}
use Rattle.gate_base.specs.declared.name.Target.{Target}
use Rattle.gate_base.specs.declared.sixteen.Sixteen.{Sixteen}
use Rattle.gate_base.specs.declared.profile.SigAlg.TheVariants.{EcdsaSha256}
use Rattle.der_text.specs.Tree.{spelling}
use Rattle.csr10.specs.Csr.{Fields, IsCsr}
use Rattle.tbs_build.specs.Small.{small_body_tree, IsSerial}
use Rattle.tbs_build.specs.Certificate.{certificate_of}
use Rattle.gate_entries.specs.declared.entry.Entry.{Entry}
use Rattle.gate_entries.specs.declared.entry.What.{What}
use Rattle.gate_entries.specs.declared.entry.What.TheVariants.{Order, Send, Signed, Blocked}
use Rattle.gate_entries.specs.Command.{entry_with}
use Rattle.gate_machine.specs.Keys.{is_same}

-- ---- orders

abbrev pub is_order : What → Bool
is_order (Order key common days targets request) = true
is_order what = false

abbrev pub targets_of : What → List Target
targets_of (Order key common days targets request) = targets
targets_of what = []

-- an order's key is the SubjectPublicKeyInfo in its request (RFC 2986, section 4.1)
pub record IsKeyIn (request key : List ℕ) : Type 0 where
  pub fields : Fields
  pub is : IsCsr request fields
  pub same : key ≡ fields.spki

abbrev pub IsOrderKey : What → List ℕ → Type 0
IsOrderKey (Order retry common days targets request) key = IsKeyIn request key
IsOrderKey what key = ⊥

-- the caller's own order with this number
abbrev pub is_own_order : List ℕ → ℕ → Entry → Bool
is_own_order caller number entry = is_same entry.caller caller && (nat_eq entry.number number && is_order entry.what)

abbrev pub own_order : List ℕ → ℕ → List Entry → Option Entry
own_order caller number history = find (is_own_order caller number) history

-- ---- what was sent and signed for an order, and which keys are blocked

abbrev pub is_send_for : ℕ → What → Bool
is_send_for number (Send order body) = nat_eq order number
is_send_for number what = false

-- the order for which an entry sent a body
abbrev pub order_in : What → ℕ
order_in (Send order body) = order
order_in what = 0

abbrev pub body_in : What → List ℕ
body_in (Send order body) = body
body_in what = []

-- the first entry that sent a body for the order; all of them send the same one
abbrev pub sent_for : ℕ → List Entry → Option Entry
sent_for number history = find (λ entry. is_send_for number entry.what) history

abbrev pub is_signed_for : ℕ → What → Bool
is_signed_for number (Signed order signature) = nat_eq order number
is_signed_for number what = false

abbrev pub signature_in : What → List ℕ
signature_in (Signed order signature) = signature
signature_in what = []

abbrev pub signed_for : ℕ → List Entry → Option Entry
signed_for number history = find (λ entry. is_signed_for number entry.what) history

abbrev pub blocks : List ℕ → What → Bool
blocks spki (Blocked key blocked) = is_same blocked spki
blocks spki what = false

-- the first entry that blocks the key
abbrev pub block_of : List ℕ → List Entry → Option Entry
block_of spki history = find (λ entry. blocks spki entry.what) history

-- ---- serial numbers

-- the serial number's sixteen bytes in a body: they stand behind the heads of the SEQUENCE and of the INTEGER
abbrev pub more_octets : ℕ → ℕ
more_octets first = if nat_lt first 128 then 0 else first - 128

abbrev pub serial_in : List ℕ → List ℕ
serial_in [] = []
serial_in (tag ∷ []) = []
serial_in (tag ∷ first ∷ rest) = take 16 (drop (2 + more_octets first) rest)

abbrev pub has_serial : List ℕ → What → Bool
has_serial serial (Send order body) = is_same (serial_in body) serial
has_serial serial what = false

abbrev pub send_with : List ℕ → List Entry → Option Entry
send_with serial history = find (λ entry. has_serial serial entry.what) history

abbrev pub TellsSixteen : List ℕ → Option Sixteen → Type 0
TellsSixteen bytes (Some sixteen) = (sixteen.0 ≡ bytes) × (length bytes ≡ 16)
TellsSixteen bytes None = length bytes ≢ 16

-- The serial number of drawn bytes: the first byte is made one of 40 to 7f, so that the number is positive and has sixteen
-- bytes (RFC 5280, section 4.1.2.2).
abbrev pub masked : List ℕ → List ℕ
masked [] = []
masked (first ∷ rest) = (first % 64 + 64) ∷ rest

-- ---- bodies

abbrev pub small_bytes : List ℕ → List Target → List ℕ
small_bytes serial targets = spelling (small_body_tree serial targets)

-- a body that wasn't sent before, with a serial number that no body has
pub record IsNewBody (before : List Entry) (targets : List Target) (body : List ℕ) : Type 0 where
  pub serial : List ℕ
  pub is_serial : IsSerial serial
  pub size : length serial ≡ 16
  pub spelled : body ≡ small_bytes serial targets
  pub new : send_with serial before ≡ None

-- a serial number that no body has
pub record IsFresh (before : List Entry) (serial : List ℕ) : Type 0 where
  pub is_serial : IsSerial serial
  pub new : send_with serial before ≡ None

abbrev pub HasFreshSerial : List Entry → List ℕ → Type 0
HasFreshSerial before body = (length (serial_in body) ≡ 16) × IsFresh before (serial_in body)

-- the serial number in a body, where it may stand in a new one
abbrev pub TellsNewSerial : List Entry → List ℕ → Option Sixteen → Type 0
TellsNewSerial before body (Some serial) = (serial.0 ≡ serial_in body) × HasFreshSerial before body
TellsNewSerial before body None = ¬ (HasFreshSerial before body)

-- the order's one body: the one that was sent, or else a new one
pub record IsSentBody (before : List Entry) (number : ℕ) (body : List ℕ) : Type 0 where
  pub sent : Entry
  pub stands : sent_for number before ≡ Some sent
  pub same : body ≡ body_in sent.what

abbrev pub IsBodyOf : List Entry → ℕ → Entry → List ℕ → Type 0
IsBodyOf before number order body =
    IsSentBody before number body ⊎ ((sent_for number before ≡ None) × IsNewBody before (targets_of order.what) body)

-- ---- signatures and certificates

-- the entry of the signature of what an entry sent
abbrev pub signed_entry : Entry → List ℕ → Entry
signed_entry entry signature = entry_with (entry.number + 1) entry.moment entry.caller (Signed (order_in entry.what) signature)

-- so far each body is signed by ECDSA with SHA-256
abbrev pub certificate_bytes : List ℕ → List ℕ → List ℕ
certificate_bytes body signature = certificate_of body EcdsaSha256 signature

-- ---- all bodies that were sent

abbrev pub sent_by : What → List (List ℕ)
sent_by (Send order body) = body ∷ []
sent_by what = []

-- the one list is a subsequence of the other
abbrev pub Within : List (List ℕ) → List (List ℕ) → Type 0
Within [] all = Unit {0}
Within (body ∷ bodies) [] = ⊥
Within (body ∷ bodies) (first ∷ all) = ((body ≡ first) × Within bodies all) ⊎ Within (body ∷ bodies) all

-- a body that is sent for an order is the first one that was sent for it
abbrev pub HasOneBodyEach : List Entry → Type 0
HasOneBodyEach history = (front rest : List Entry) (entry : Entry) (number : ℕ) → history ≡ front ++ entry ∷ rest → is_send_for number entry.what ≡ true
    → (sent : Entry) × (sent_for number history ≡ Some sent) × (body_in entry.what ≡ body_in sent.what)

-- a body has a serial number of sixteen bytes, and a number of two bytes counts it
pub record IsGoodBody (body : List ℕ) : Type 0 where
  pub serial : length (serial_in body) ≡ 16
  pub few : length body < 2 ^ 16
