-- What becomes of a draft: it stands, unless its drawn bytes repeat or the journal is full. Only here is all of the history asked.
use Rattle.std.specs.Prelude.{◌≡◌, ℕ, ◌+◌, ◌≤◌, List, true, length, None}
use Rattle.gate_entries.specs.declared.entry.Entry.{Entry}
use Rattle.gate_entries.specs.declared.reply.Reply.TheVariants as replies
use Rattle.gate_machine.specs.declared.answer.Answer.{Answer}
use Rattle.gate_machine.specs.declared.answer.Answer.TheVariants.{Say, Write, Send, NeedDraw}
use Rattle.gate_machine.specs.declared.draft.Draft.{Draft}
use Rattle.gate_machine.specs.declared.draft.Used.{Used}
use Rattle.gate_machine.specs.declared.draft.Used.TheVariants as used
use Rattle.gate_machine.specs.Cases.{Is, Case, Test}
use Rattle.gate_machine.specs.History.{journal_place, entry_total, Follows}
use Rattle.gate_machine.specs.Sends.{is_send_for, order_in, masked, send_with}
use Rattle.journal_core.specs.Journal.{group_total}
use Rattle.journal_core.specs.Journal as journals

-- the journal has room for one entry more
abbrev pub HasRoom : List Entry → Entry → Type 0
HasRoom history entry = journals.HasRoom (journal_place history) (entry_total entry)

-- the longest payload of a signature's entry: 1,024 bytes of a signature, the caller, and 29 bytes around them
abbrev pub most_signed : List ℕ → ℕ
most_signed caller = 1053 + length caller

-- the journal has room for what is sent and for the longest signature
abbrev pub HasRoomToSend : List Entry → Entry → Type 0
HasRoomToSend history entry = journals.HasRoom (journal_place history) (entry_total entry + group_total (most_signed entry.caller))

-- an entry and what comes with it fit, or the journal is full
abbrev pub EndsFull : List Entry → Answer → Answer → Type 0
EndsFull history (Say reply) = Is (Say reply)
EndsFull history (Write entry) = Test (HasRoom history entry) (Is (Write entry)) (Is (Say replies.Full))
EndsFull history (Send entry) = Test (HasRoomToSend history entry) (Is (Send entry)) (Is (Say replies.Full))
EndsFull history NeedDraw = Is NeedDraw

-- drawn bytes that stand already: a body that was sent has the serial number that they make
abbrev pub EndsRepeated : List Entry → Used → (Answer → Type 0) → Answer → Type 0
EndsRepeated history used.Nothing fresh = fresh
EndsRepeated history (used.Serial draw) fresh = Case (send_with (masked draw.0) history) fresh (λ other. Is (Say (replies.EntropyRepeat draw)))

abbrev pub Ends : List Entry → Draft → Answer → Type 0
Ends history draft = EndsRepeated history draft.used (EndsFull history draft.answer)

-- ---- what a draft may write

-- a body that may come behind the history
pub record MaySend (history : List Entry) (entry : Entry) : Type 0 where
  pub follows : Follows history entry
  pub sends : is_send_for (order_in entry.what) entry.what ≡ true
  pub caller : length entry.caller ≤ 64

abbrev pub MayEnd : List Entry → Answer → Type 0
MayEnd history (Say reply) = Unit {0}
MayEnd history (Write entry) = Follows history entry
MayEnd history (Send entry) = MaySend history entry
MayEnd history NeedDraw = Unit {0}

abbrev pub IsUnused : List Entry → Used → Type 0
IsUnused history used.Nothing = Unit {0}
IsUnused history (used.Serial draw) = send_with (masked draw.0) history ≡ None

-- what a draft writes may come behind the history, unless its drawn bytes repeat
abbrev pub IsDue : List Entry → Draft → Type 0
IsDue history draft = IsUnused history draft.used → MayEnd history draft.answer
