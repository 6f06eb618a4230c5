-- What one message moves: a gate's history and its loose entry, by what the outside gave for it, and the reply. No object of the
-- outside is named here.
use Rattle.std.specs.Prelude.{◌≡◌, ◌≢◌, ℕ, ◌⊎◌, List, [], ◌∷◌, ◌++◌, true, false, Option, Some, None, IfSome, option_to_list}
use Rattle.std.specs.Option.{option_map}
use Rattle.gate_base.specs.declared.sixteen.Sixteen.{Sixteen}
use Rattle.gate_entries.specs.declared.caller.Caller.{Caller}
use Rattle.gate_entries.specs.declared.command.Command.{Command}
use Rattle.gate_entries.specs.declared.entry.Entry.{Entry}
use Rattle.gate_entries.specs.declared.reply.Reply.{Reply}
use Rattle.gate_entries.specs.declared.reply.Reply.TheVariants.{Issued, RoleDenied, ClockFault, EntropyFault, DiskFault, SignerFault, JournalBad, NoMemory}
use Rattle.gate_entries.specs.Command.{may_ask}
use Rattle.gate_machine.specs.declared.answer.Answer.{Answer}
use Rattle.gate_machine.specs.declared.answer.Answer.TheVariants.{Say, Write, Send, NeedDraw}
use Rattle.gate_machine.specs.History.{Follows, Legal}
use Rattle.gate_machine.specs.Sends.{order_in, body_in, serial_in, signed_entry, certificate_bytes}
use Rattle.gate_machine.specs.Answer.{Answers, IsReady, reply_of}

-- a gate's history, and the entry whose commit failed, if there is one
pub record Held : Type 0 where
  pub history : List Entry
  pub loose : Option Entry

-- a history with nothing loose
abbrev pub Holds : Held → List Entry → Type 0
Holds held history = (held.history ≡ history) × (held.loose ≡ None)

-- the history is legal, and what is loose may come behind it
pub record IsSound (held : Held) : Type 0 where
  pub legal : Legal held.history
  pub waits : IfSome held.loose (λ entry. Follows held.history entry)

-- the new history begins with the old one
abbrev pub Extends : List Entry → List Entry → Type 0
Extends old new = (more : List Entry) × (new ≡ old ++ more)

-- ---- what the outside gave

-- a call of the signer: the body that it was handed, and the signature that it gave, if it gave one
pub record SignerCall : Type 0 where
  pub body : List ℕ
  pub signature : Option (List ℕ)

-- for one message: a reading of the clock, drawn bytes, and a call of the signer, each where it was asked for. A reading or a draw
-- that failed is None.
pub record Given : Type 0 where
  pub reading : Option (Option ℕ)
  pub draw : Option (Option Sixteen)
  pub call : Option SignerCall

-- neither the clock nor the random draws nor the signer was asked
abbrev pub nothing : Given
nothing = record { reading = None; draw = None; call = None }

-- the clock was asked alone, and failed
abbrev pub no_reading : Given
no_reading = record { reading = Some None; draw = None; call = None }

-- a fault of the clock, of the random draws or of the signer is told only where that call failed
pub record HasFaults (given : Given) (reply : Reply) : Type 0 where
  pub clock : reply ≡ ClockFault → given.reading ≡ Some None
  pub entropy : reply ≡ EntropyFault → given.draw ≡ Some None
  pub signer : reply ≡ SignerFault → (body : List ℕ) × (given.call ≡ Some (record { body = body; signature = None }))

-- ---- an answer is carried out

-- an entry was to be written, and the disk failed: it is loose
pub record Waits (history : List Entry) (entry : Entry) (new : Held) : Type 0 where
  pub same : new.history ≡ history
  pub loose : new.loose ≡ Some entry

-- an entry was to be written: it is committed and its reply returned, or the disk failed
abbrev pub Wrote : List Entry → Entry → Reply → Held → Type 0
Wrote history entry reply new = ((reply ≡ reply_of entry) × Holds new (history ++ entry ∷ [])) ⊎ ((reply ≡ DiskFault) × Waits history entry new)

-- the disk failed, and the signer wasn't called
pub record Unsent (history : List Entry) (entry : Entry) (call : Option SignerCall) (reply : Reply) (new : Held) : Type 0 where
  pub uncalled : call ≡ None
  pub fault : reply ≡ DiskFault
  pub waits : Waits history entry new

-- the entry is durable, and the signer gave no signature
pub record Unsigned (history : List Entry) (entry : Entry) (call : Option SignerCall) (reply : Reply) (new : Held) : Type 0 where
  pub called : call ≡ Some (record { body = body_in entry.what; signature = None })
  pub fault : reply ≡ SignerFault
  pub held : Holds new (history ++ entry ∷ [])

-- the certificate, with the serial number that stands in its body
pub record Issues (entry : Entry) (signature : List ℕ) (reply : Reply) : Type 0 where
  pub serial : Sixteen
  pub serial_is : serial.0 ≡ serial_in (body_in entry.what)
  pub told : reply ≡ Issued (order_in entry.what) serial (certificate_bytes (body_in entry.what) signature)

-- the entry is durable, and the signer signed; the signature's entry is committed and the certificate returned, or the disk failed
pub record Signed (history : List Entry) (entry : Entry) (call : Option SignerCall) (reply : Reply) (new : Held) : Type 0 where
  pub signature : List ℕ
  pub called : call ≡ Some (record { body = body_in entry.what; signature = Some signature })
  pub follows : Follows (history ++ entry ∷ []) (signed_entry entry signature)
  pub commits : (Issues entry signature reply × Holds new ((history ++ entry ∷ []) ++ signed_entry entry signature ∷ []))
      ⊎ ((reply ≡ DiskFault) × Waits (history ++ entry ∷ []) (signed_entry entry signature) new)

-- a body was to be sent: its entry was made durable before the signer was called, or the disk failed and the signer wasn't called
abbrev pub Sent : List Entry → Entry → Option SignerCall → Reply → Held → Type 0
Sent history entry call reply new = Unsent history entry call reply new ⊎ Unsigned history entry call reply new ⊎ Signed history entry call reply new

-- an answer is said, its entry is written, or its body is sent
abbrev pub Does : Answer → List Entry → Option SignerCall → Reply → Held → Type 0
Does (Say said) history call reply new = (reply ≡ said) × Holds new history × (call ≡ None)
Does (Write entry) history call reply new = Wrote history entry reply new × (call ≡ None)
Does (Send entry) history call reply new = Sent history entry call reply new
Does NeedDraw history call reply new = ⊥

-- ---- a command is answered over a history with nothing loose

-- there was no memory before the signer was called; bytes may have been drawn
pub record WantsMemory (history : List Entry) (draw : Option (Option Sixteen)) (call : Option SignerCall) (reply : Reply) (new : Held) : Type 0 where
  pub told : reply ≡ NoMemory
  pub drawn : draw ≢ Some None
  pub uncalled : call ≡ None
  pub held : Holds new history

-- bytes were to be drawn, and none were given
pub record FailsToDraw (history : List Entry) (caller : Caller) (command : Command) (reading : ℕ) (draw : Option (Option Sixteen)) (call : Option SignerCall) (reply : Reply) (new : Held) : Type 0 where
  pub needs : Answers history caller command reading None NeedDraw
  pub failed : draw ≡ Some None
  pub fault : reply ≡ EntropyFault
  pub uncalled : call ≡ None
  pub held : Holds new history

-- bytes were drawn where the answer needs them, and not otherwise; what the answer writes may come behind the history, and fits
pub record Acted (history : List Entry) (caller : Caller) (command : Command) (reading : ℕ) (draw : Option (Option Sixteen)) (call : Option SignerCall) (reply : Reply) (new : Held) : Type 0 where
  pub drawn : Option Sixteen
  pub draws : draw ≡ option_map Some drawn
  pub needs : IfSome drawn (λ bytes. Answers history caller command reading None NeedDraw)
  pub answer : Answer
  pub answers : Answers history caller command reading drawn answer
  pub ready : IsReady history answer
  pub does : Does answer history call reply new

-- the reply over a reading
abbrev pub Acts : List Entry → Caller → Command → ℕ → Option (Option Sixteen) → Option SignerCall → Reply → Held → Type 0
Acts history caller command reading draw call reply new =
    WantsMemory history draw call reply new
    ⊎ FailsToDraw history caller command reading draw call reply new
    ⊎ Acted history caller command reading draw call reply new

-- the one call of the clock gave a reading, and the reply is over it
pub record Read (history : List Entry) (caller : Caller) (command : Command) (given : Given) (reply : Reply) (new : Held) : Type 0 where
  pub reading : ℕ
  pub reads : given.reading ≡ Some (Some reading)
  pub acts : Acts history caller command reading given.draw given.call reply new

-- the clock failed
pub record FailsToRead (history : List Entry) (given : Given) (reply : Reply) (new : Held) : Type 0 where
  pub gave : given ≡ no_reading
  pub fault : reply ≡ ClockFault
  pub held : Holds new history

abbrev pub Asks : List Entry → Caller → Command → Given → Reply → Held → Type 0
Asks history caller command given reply new = FailsToRead history given reply new ⊎ Read history caller command given reply new

-- the caller's role doesn't have the command, and the clock isn't read
pub record Denies (history : List Entry) (caller : Caller) (command : Command) (given : Given) (reply : Reply) (new : Held) : Type 0 where
  pub denied : may_ask caller.role command ≡ false
  pub gave : given ≡ nothing
  pub told : reply ≡ RoleDenied
  pub held : Holds new history

abbrev pub Goes : List Entry → Caller → Command → Given → Reply → Held → Type 0
Goes history caller command given reply new =
    Denies history caller command given reply new ⊎ ((may_ask caller.role command ≡ true) × Asks history caller command given reply new)

-- ---- a loose entry is settled first

-- what is loose has come back, or it hasn't
abbrev pub Settles : Held → List Entry → Type 0
Settles old history = (history ≡ old.history) ⊎ (history ≡ old.history ++ option_to_list old.loose)

-- the disk could not be mounted again, or what it holds is not this history
abbrev pub EndsRemount : Reply → Type 0
EndsRemount reply = (reply ≡ DiskFault) ⊎ (reply ≡ NoMemory) ⊎ ((at : ℕ) × (reply ≡ JournalBad at))

pub record RemountFails (old : Held) (given : Given) (reply : Reply) (new : Held) : Type 0 where
  pub entry : Entry
  pub was_loose : old.loose ≡ Some entry
  pub gave : given ≡ nothing
  pub ends : EndsRemount reply
  pub held : new ≡ old

-- nothing is loose any more, and the command is answered
pub record Settled (old : Held) (caller : Caller) (command : Command) (given : Given) (reply : Reply) (new : Held) : Type 0 where
  pub history : List Entry
  pub settles : Settles old history
  pub goes : Goes history caller command given reply new

-- what one message moves
abbrev pub Moves : Held → Caller → Command → Given → Reply → Held → Type 0
Moves old caller command given reply new = RemountFails old given reply new ⊎ Settled old caller command given reply new
