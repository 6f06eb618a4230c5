-- Orders that are finalized: how the command is answered, and the rows of what is sent and signed.
use Rattle.std.specs.Prelude.{◌≡◌, ℕ, ◌-◌, ◌≤◌, List, [], ◌∷◌, length, true, Option, Some, None, slice_get}
use Rattle.gate_base.specs.declared.moment.Moment.{Moment}
use Rattle.gate_base.specs.declared.sixteen.Sixteen.{Sixteen}
use Rattle.gate_entries.specs.declared.caller.Caller.{Caller}
use Rattle.gate_entries.specs.declared.entry.Entry.{Entry}
use Rattle.gate_entries.specs.declared.entry.What.TheVariants as whats
use Rattle.gate_entries.specs.declared.reply.Reply.TheVariants as replies
use Rattle.gate_entries.specs.declared.reply.Why.{Why}
use Rattle.gate_entries.specs.declared.reply.Why.TheVariants.{KeyBlocked}
use Rattle.gate_machine.specs.declared.answer.Answer.TheVariants.{Say, Send, NeedDraw}
use Rattle.gate_machine.specs.declared.draft.Draft.{Draft}
use Rattle.gate_machine.specs.declared.draft.Used.{Used}
use Rattle.gate_machine.specs.declared.draft.Used.TheVariants as used
use Rattle.gate_machine.specs.declared.place.Place.{Place}
use Rattle.gate_machine.specs.Cases.{Is, Case, With}
use Rattle.gate_machine.specs.Draft.{plain, says}
use Rattle.gate_machine.specs.Sends.{own_order, is_send_for, signed_for, block_of, IsOrderKey, targets_of, body_in, signature_in, serial_in, masked, small_bytes, certificate_bytes, IsBodyOf}
use Rattle.gate_machine.specs.Sight.{Sight, entry_at}

-- ---- the answer

-- why the order's body may not be sent, over an entry that blocks its key
abbrev pub blocked_by : Entry → List Why
blocked_by block = KeyBlocked block.number ∷ []

-- the body is sent, unless the order's key is blocked
abbrev pub JudgesBody : Sight → Place → Caller → ℕ → Entry → Used → List ℕ → Draft → Type 0
JudgesBody sight place caller number order used body =
    With (IsOrderKey order.what) (λ key.
    Case (sight.block key) (Is (record { used = used; answer = Send (entry_at place caller (whats.Send number body)) }))
    (λ block. Is (record { used = used; answer = Say (replies.Refused (blocked_by block)) })))

-- a new body, with a serial number from drawn bytes
abbrev pub JudgesNew : Sight → Place → Caller → ℕ → Option Sixteen → Entry → Draft → Type 0
JudgesNew sight place caller number drawn order =
    Case drawn (Is (plain NeedDraw)) (λ draw.
    JudgesBody sight place caller number order (used.Serial draw) (small_bytes (masked draw.0) (targets_of order.what)))

-- a body was sent before, and the same is sent again; or else a new one
abbrev pub JudgesUnsigned : Sight → Place → Caller → ℕ → Option Sixteen → Entry → Draft → Type 0
JudgesUnsigned sight place caller number drawn order =
    Case (sight.sent number) (JudgesNew sight place caller number drawn order)
    (λ sent. JudgesBody sight place caller number order used.Nothing (body_in sent.what))

-- the certificate of what was sent and signed
abbrev pub JudgesSigned : Sight → ℕ → Entry → Draft → Type 0
JudgesSigned sight number signed =
    Case (sight.sent number) (λ this. ⊥) (λ sent.
    With (λ (serial : Sixteen). serial.0 ≡ serial_in (body_in sent.what)) (λ serial.
    Is (says (replies.Issued number serial (certificate_bytes (body_in sent.what) (signature_in signed.what))))))

-- the order is signed, and its certificate is told again; or it is sent
abbrev pub JudgesOwn : Sight → Place → Caller → ℕ → Option Sixteen → Entry → Draft → Type 0
JudgesOwn sight place caller number drawn order =
    Case (sight.signed number) (JudgesUnsigned sight place caller number drawn order) (JudgesSigned sight number)

abbrev pub JudgesFinalize : Sight → Place → Caller → ℕ → Option Sixteen → Draft → Type 0
JudgesFinalize sight place caller number drawn =
    Case (sight.order number) (Is (says replies.NoSuchOrder)) (JudgesOwn sight place caller number drawn)

-- ---- the rows

-- a body may be sent for the caller's own order: the order isn't signed, and its key isn't blocked
pub record ComesToSigner (before : List Entry) (caller : List ℕ) (number : ℕ) (body : List ℕ) : Type 0 where
  pub order : Entry
  pub own : own_order caller number before ≡ Some order
  pub unsigned : signed_for number before ≡ None
  pub key : List ℕ
  pub is_key : IsOrderKey order.what key
  pub unblocked : block_of key before ≡ None
  pub body_is : IsBodyOf before number order body

-- a signature comes directly behind what was sent for the same order, by the same caller and at the same moment
pub record IsSentBy (last : Entry) (caller : List ℕ) (moment : Moment) (number : ℕ) : Type 0 where
  pub sends : is_send_for number last.what ≡ true
  pub same_caller : last.caller ≡ caller
  pub same_moment : last.moment.0 ≡ moment.0

-- it has 1 to 1,024 bytes
pub record IsSignature (signature : List ℕ) : Type 0 where
  pub some : 1 ≤ length signature
  pub most : length signature ≤ 1024

pub record ComesSigned (before : List Entry) (caller : List ℕ) (moment : Moment) (number : ℕ) (signature : List ℕ) : Type 0 where
  pub last : Entry
  pub behind : slice_get before (length before - 1) ≡ Some last
  pub sent : IsSentBy last caller moment number
  pub size : IsSignature signature
