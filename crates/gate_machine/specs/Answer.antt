-- What a command is answered over a history, a reading of the clock and drawn bytes: a reply to say, an entry to write, a body to
-- send, or that bytes must be drawn.
use Rattle.std.specs.Prelude.{◌≡◌, ◌≢◌, ℕ, ◌<◌, ◌≤◌, ◌⊎◌, true, false, List, length, Option, None}
use Rattle.gate_base.specs.declared.sixteen.Sixteen.{Sixteen}
use Rattle.gate_entries.specs.declared.caller.Caller.{Caller}
use Rattle.gate_entries.specs.declared.command.Command.{Command}
use Rattle.gate_entries.specs.declared.command.Command.TheVariants as commands
use Rattle.gate_entries.specs.declared.entry.Entry.{Entry}
use Rattle.gate_entries.specs.declared.entry.What.{What}
use Rattle.gate_entries.specs.declared.entry.What.TheVariants as whats
use Rattle.gate_entries.specs.declared.reply.Reply.{Reply}
use Rattle.gate_entries.specs.declared.reply.Reply.TheVariants as replies
use Rattle.gate_entries.specs.Command.{may_ask}
use Rattle.gate_machine.specs.declared.answer.Answer.{Answer}
use Rattle.gate_machine.specs.declared.answer.Answer.TheVariants.{Say, Write, Send, NeedDraw}
use Rattle.gate_machine.specs.declared.draft.Draft.{Draft}
use Rattle.gate_machine.specs.declared.place.Place.{Place}
use Rattle.gate_machine.specs.Cases.{Is, With}
use Rattle.gate_machine.specs.Draft.{says}
use Rattle.gate_machine.specs.Sight.{Sight, sight_of, place_of}
use Rattle.gate_machine.specs.Sends.{is_send_for, order_in}
use Rattle.gate_machine.specs.History.{first_moment, last_moment, Follows}
use Rattle.gate_machine.specs.Commands.Order.{placed, JudgesOrder}
use Rattle.gate_machine.specs.Commands.Block.{blocked, JudgesBlock}
use Rattle.gate_machine.specs.Commands.Finalize.{JudgesFinalize}
use Rattle.gate_machine.specs.Ends.{Ends}
pub use Rattle.gate_machine.specs.Ends.{HasRoom, most_signed, HasRoomToSend}

-- ---- the reading

pub record IsInRange (reading : ℕ) : Type 0 where
  pub begun : first_moment ≤ reading
  pub ended : reading ≤ last_moment

abbrev pub IsOutOfRange : ℕ → Type 0
IsOutOfRange reading = (reading < first_moment) ⊎ (last_moment < reading)

-- ---- replies to what was written

-- The reply to an entry that was written under a key. Settings, bodies and signatures stand under none, and no command is answered
-- by this reply to them.
abbrev pub reply_to : What → ℕ → Reply
reply_to (whats.Settings bytes) number = placed number
reply_to (whats.Order key common days targets request) number = placed number
reply_to (whats.Challenge key order method target value thumb) number = placed number
reply_to (whats.Observation key challenge seen_at seen) number = placed number
reply_to (whats.CaaAnswer key order target seen_at answers) number = placed number
reply_to (whats.Send order body) number = placed number
reply_to (whats.Signed order signature) number = placed number
reply_to (whats.Blocked key spki) number = blocked number

abbrev pub reply_of : Entry → Reply
reply_of entry = reply_to entry.what entry.number

-- ---- answers

-- what a command is answered by what its caller sees; challenges, observations and CAA answers are denied to every role as yet
abbrev pub Judges : Sight → Place → Caller → Command → Option Sixteen → Draft → Type 0
Judges sight place caller (commands.Order key targets days common request) drawn = JudgesOrder sight place caller key targets days common request
Judges sight place caller (commands.Challenge key order target method) drawn = Is (says replies.RoleDenied)
Judges sight place caller (commands.Observe key challenge seen_at seen) drawn = Is (says replies.RoleDenied)
Judges sight place caller (commands.ObserveCaa key order target seen_at caa) drawn = Is (says replies.RoleDenied)
Judges sight place caller (commands.Finalize number) drawn = JudgesFinalize sight place caller number drawn
Judges sight place caller (commands.Block key spki) drawn = JudgesBlock sight place caller key spki

-- the answer to a command that the role has, over a reading in range
abbrev pub AnswersCommand : List Entry → Caller → Command → ℕ → Option Sixteen → Answer → Type 0
AnswersCommand history caller command reading drawn =
    With (Judges (sight_of caller history) (place_of history reading) caller command drawn) (Ends history)

abbrev pub AnswersRead : List Entry → Caller → Command → ℕ → Option Sixteen → Answer → Type 0
AnswersRead history caller command reading drawn answer =
    (IsOutOfRange reading × (answer ≡ Say (replies.ClockRange reading)))
    ⊎ (IsInRange reading × AnswersCommand history caller command reading drawn answer)

-- The first refusal that holds: the role lacks the command; the reading is out of range; what the command's own file says; drawn
-- bytes that stand already; no room.
abbrev pub Answers : List Entry → Caller → Command → ℕ → Option Sixteen → Answer → Type 0
Answers history caller command reading drawn answer =
    ((may_ask caller.role command ≡ false) × (answer ≡ Say replies.RoleDenied))
    ⊎ ((may_ask caller.role command ≡ true) × AnswersRead history caller command reading drawn answer)

-- what is to be written may come behind the history, and fits
pub record IsReadyToWrite (history : List Entry) (entry : Entry) : Type 0 where
  pub follows : Follows history entry
  pub room : HasRoom history entry

-- what is to be sent may come behind the history, and fits with its signature
pub record IsReadyToSend (history : List Entry) (entry : Entry) : Type 0 where
  pub follows : Follows history entry
  pub room : HasRoomToSend history entry
  pub sends : is_send_for (order_in entry.what) entry.what ≡ true
  pub caller : length entry.caller ≤ 64

abbrev pub IsReady : List Entry → Answer → Type 0
IsReady history (Say reply) = Unit {0}
IsReady history (Write entry) = IsReadyToWrite history entry
IsReady history (Send entry) = IsReadyToSend history entry
IsReady history NeedDraw = Unit {0}

-- bytes are drawn once at most, and no answer tells a fault of the disk
abbrev pub MayBe : Option Sixteen → Answer → Type 0
MayBe drawn (Say reply) = reply ≢ replies.DiskFault
MayBe drawn (Write entry) = Unit {0}
MayBe drawn (Send entry) = Unit {0}
MayBe drawn NeedDraw = drawn ≡ None
