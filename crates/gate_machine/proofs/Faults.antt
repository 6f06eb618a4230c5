-- Which failures a reply may tell.
use Rattle.std.proofs.Common.{◌≡◌, ◌≢◌, ℕ, List, [], ◌∷◌, Bool, true, false, Option, Some, None, refl, sym, subst, inl, inr, ap, ◌∙◌}
use Rattle.gate_base.specs.declared.sixteen.Sixteen.{Sixteen}
use Rattle.gate_entries.specs.declared.caller.Caller.{Caller}
use Rattle.gate_entries.specs.declared.command.Command.{Command}
use Rattle.gate_entries.specs.declared.command.Command.TheVariants as commands
use Rattle.gate_entries.specs.declared.entry.Entry.{Entry}
use Rattle.gate_entries.specs.declared.entry.What.{What}
use Rattle.gate_entries.specs.declared.entry.What.TheVariants as whats
use Rattle.gate_entries.specs.declared.reply.Reply.{Reply}
use Rattle.gate_entries.specs.declared.reply.Reply.TheVariants.{BadFields, KeyReused, ClockFault, EntropyFault, DiskFault, SignerFault, JournalBad, NoMemory}
use Rattle.gate_machine.specs.declared.answer.Answer.{Answer}
use Rattle.gate_machine.specs.declared.answer.Answer.TheVariants.{Say, Write, Send, NeedDraw}
use Rattle.gate_machine.specs.Sends.{body_in, sent_by}
use Rattle.gate_machine.specs.declared.draft.Draft.{Draft}
use Rattle.gate_machine.specs.declared.draft.Used.{Used}
use Rattle.gate_machine.specs.declared.draft.Used.TheVariants as uses
use Rattle.gate_machine.specs.declared.place.Place.{Place}
use Rattle.gate_machine.specs.Cases.{Is}
use Rattle.gate_machine.specs.Draft.{says, writes, JudgesKept, JudgesFields, UnderKey}
use Rattle.gate_machine.specs.Sight.{Sight, sight_of, place_of, entry_at}
use Rattle.gate_machine.specs.Commands.Order.{placed, OrderBreaks}
use Rattle.gate_machine.specs.Commands.Block.{blocked, BlockBreaks}
use Rattle.gate_machine.specs.Commands.Finalize.{JudgesBody, JudgesUnsigned, JudgesFinalize}
use Rattle.gate_machine.specs.Ends.{EndsFull, EndsRepeated}
use Rattle.gate_machine.specs.Answer.{Answers, Judges, reply_to}
use Rattle.gate_machine.specs.Move.{Held, SignerCall, Given, HasFaults, EndsRemount, Wrote, Sent, Does, Acts, Asks, Goes, Moves}

-- replies that tell a failure, and nothing of what was asked
abbrev is_failure : Reply → Bool
is_failure ClockFault = true
is_failure EntropyFault = true
is_failure DiskFault = true
is_failure SignerFault = true
is_failure (JournalBad at) = true
is_failure NoMemory = true
is_failure reply = false

-- an answer tells no failure, and an entry that is sent sends its body
abbrev pub MayFollow : Answer → Type 0
MayFollow (Say reply) = is_failure reply ≡ false
MayFollow (Write entry) = Unit {0}
MayFollow (Send entry) = sent_by entry.what ≡ body_in entry.what ∷ []
MayFollow NeedDraw = Unit {0}

as_answer : (answer other : Answer) → answer ≡ other → MayFollow other → MayFollow answer
as_answer answer other is may = subst MayFollow (sym is) may

-- ---- drafts

kept : (what : What) (number : ℕ) → is_failure (reply_to what number) ≡ false
kept (whats.Settings bytes) number = refl
kept (whats.Order key common days targets request) number = refl
kept (whats.Challenge key order method target value thumb) number = refl
kept (whats.Observation key challenge seen_at seen) number = refl
kept (whats.CaaAnswer key order target seen_at answers) number = refl
kept (whats.Send order body) number = refl
kept (whats.Signed order signature) number = refl
kept (whats.Blocked key spki) number = refl

abbrev DraftMay : Draft → Type 0
DraftMay draft = MayFollow draft.answer

as_draft : (draft other : Draft) → draft ≡ other → DraftMay other → DraftMay draft
as_draft draft other is may = subst DraftMay (sym is) may

kept_may : (command : Command) (reply : Entry → Reply) (kept_entry : Entry) (draft : Draft) → is_failure (reply kept_entry) ≡ false
    → JudgesKept command reply kept_entry draft → DraftMay draft
kept_may command reply kept_entry draft may is = elim is [
  | inl same ↦ as_draft draft (says (reply kept_entry)) same.1 may
  | inr other ↦ as_draft draft (says (KeyReused kept_entry.number)) other.1 refl
]

fields_may : (breaks : ℕ → Type 0) (good : Draft → Type 0) (draft : Draft) → (good draft → DraftMay draft) → JudgesFields breaks good draft → DraftMay draft
fields_may breaks good draft goes_on is = elim is.2 [
  | inl none ↦ goes_on none.1
  | inr some ↦ as_draft draft (says (BadFields some.0)) some.2 refl
]

-- a command that says all of its entry
written_may : (sight : Sight) (key : List ℕ) (command : Command) (reply : Entry → Reply) (breaks : ℕ → Type 0) (entry : Entry) (draft : Draft)
    → ((e : Entry) → is_failure (reply e) ≡ false) → UnderKey sight key command reply (JudgesFields breaks (Is (writes entry))) draft → DraftMay draft
written_may sight key command reply breaks entry draft may is = elim is [
  | inl new ↦ fields_may breaks (Is (writes entry)) draft (λ good. as_draft draft (writes entry) good tt) new.1
  | inr stands ↦ kept_may command reply stands.0 draft (may stands.0) stands.2
]

module _ (sight : Sight) (place : Place) (caller : Caller) (number : ℕ) (draft : Draft) where
  body_may : (order : Entry) (used : Used) (body : List ℕ) → JudgesBody sight place caller number order used body draft → DraftMay draft
  body_may order used body is = elim is.2 [
    | inl free ↦ as_draft draft _ free.1 refl
    | inr blocked ↦ as_draft draft _ blocked.2 refl
  ]

  unsigned_may : (drawn : Option Sixteen) (order : Entry) → JudgesUnsigned sight place caller number drawn order draft → DraftMay draft
  unsigned_may drawn order is = elim is [
    | inl new ↦ elim new.1 [
      | inl undrawn ↦ as_draft draft _ undrawn.1 tt
      | inr with_draw ↦ body_may order _ _ with_draw.2
    ]
    | inr again ↦ body_may order _ _ again.2
  ]

  finalize_may : (drawn : Option Sixteen) → JudgesFinalize sight place caller number drawn draft → DraftMay draft
  finalize_may drawn is = elim is [
    | inl none ↦ as_draft draft _ none.1 refl
    | inr own ↦ elim own.2 [
      | inl unsigned ↦ unsigned_may drawn own.0 unsigned.1
      | inr signed ↦ elim signed.2 [
        | inl never ↦ absurd never.1
        | inr sent ↦ as_draft draft _ sent.2.2 refl
      ]
    ]
  ]

judges_may : (sight : Sight) (place : Place) (caller : Caller) (command : Command) (drawn : Option Sixteen) (draft : Draft)
    → Judges sight place caller command drawn draft → DraftMay draft
judges_may sight place caller (commands.Order key targets days common request) drawn draft is =
    written_may sight key (commands.Order key targets days common request) (λ kept. placed kept.number) (OrderBreaks key common days targets request)
    (entry_at place caller (whats.Order key common days targets request)) draft (λ e. refl) is
judges_may sight place caller (commands.Challenge key order target method) drawn draft is = as_draft draft _ is refl
judges_may sight place caller (commands.Observe key challenge seen_at seen) drawn draft is = as_draft draft _ is refl
judges_may sight place caller (commands.ObserveCaa key order target seen_at caa) drawn draft is = as_draft draft _ is refl
judges_may sight place caller (commands.Finalize number) drawn draft is = finalize_may sight place caller number draft drawn is
judges_may sight place caller (commands.Block key spki) drawn draft is =
    written_may sight key (commands.Block key spki) (λ kept. blocked kept.number) (BlockBreaks key spki) (entry_at place caller (whats.Blocked key spki)) draft
    (λ e. refl) is

-- ---- answers

full_may : (history : List Entry) (drafted answer : Answer) → MayFollow drafted → EndsFull history drafted answer → MayFollow answer
full_may history (Say reply) answer may is = as_answer answer _ is may
full_may history (Write entry) answer may is = elim is [
  | inl fits ↦ as_answer answer _ fits.1 may
  | inr full ↦ as_answer answer _ full.1 refl
]
full_may history (Send entry) answer may is = elim is [
  | inl fits ↦ as_answer answer _ fits.1 may
  | inr full ↦ as_answer answer _ full.1 refl
]
full_may history NeedDraw answer may is = as_answer answer _ is may

ends_may : (history : List Entry) (used : Used) (drafted answer : Answer) → MayFollow drafted → EndsRepeated history used (EndsFull history drafted) answer → MayFollow answer
ends_may history uses.Nothing drafted answer may is = full_may history drafted answer may is
ends_may history (uses.Serial draw) drafted answer may is = elim is [
  | inl new ↦ full_may history drafted answer may new.1
  | inr repeats ↦ as_answer answer _ repeats.2 refl
]

pub may_follow : (history : List Entry) (caller : Caller) (command : Command) (reading : ℕ) (drawn : Option Sixteen) (answer : Answer)
    → Answers history caller command reading drawn answer → MayFollow answer
may_follow history caller command reading drawn answer answers = elim answers [
  | inl denied ↦ as_answer answer _ denied.1 refl
  | inr allowed ↦ elim allowed.1 [
    | inl out ↦ as_answer answer _ out.1 refl
    | inr in_range ↦ (
        let judged = in_range.1 in
        ends_may history judged.0.used judged.0.answer answer
        (judges_may (sight_of caller history) (place_of history reading) caller command drawn judged.0 judged.1) judged.2
        )
  ]
]

-- ---- another journal

abbrev is_foreign : Reply → Bool
is_foreign (JournalBad at) = true
is_foreign reply = false

native : (reply : Reply) → is_failure reply ≡ false → is_foreign reply ≡ false
native (JournalBad at) is = is
native reply is = refl

wrote : (history : List Entry) (entry : Entry) (reply : Reply) (new : Held) → Wrote history entry reply new → is_foreign reply ≡ false
wrote history entry reply new is = elim is [
  | inl committed ↦ ap is_foreign committed.0 ∙ native _ (kept entry.what entry.number)
  | inr lost ↦ ap is_foreign lost.0
]

sent : (history : List Entry) (entry : Entry) (call : Option SignerCall) (reply : Reply) (new : Held) → Sent history entry call reply new → is_foreign reply ≡ false
sent history entry call reply new is = elim is [
  | inl unsent ↦ ap is_foreign unsent.fault
  | inr durable ↦ elim durable [
    | inl unsigned ↦ ap is_foreign unsigned.fault
    | inr signed ↦ elim signed.commits [
      | inl issued ↦ ap is_foreign issued.0.told
      | inr lost ↦ ap is_foreign lost.0
    ]
  ]
]

does : (history : List Entry) (answer : Answer) (call : Option SignerCall) (reply : Reply) (new : Held) → MayFollow answer
    → Does answer history call reply new → is_foreign reply ≡ false
does history (Say told) call reply new may done = ap is_foreign done.0 ∙ native told may
does history (Write entry) call reply new may done = wrote history entry reply new done.0
does history (Send entry) call reply new may done = sent history entry call reply new done
does history NeedDraw call reply new may done = absurd done

acts : (history : List Entry) (caller : Caller) (command : Command) (reading : ℕ) (draw : Option (Option Sixteen)) (call : Option SignerCall) (reply : Reply) (new : Held)
    → Acts history caller command reading draw call reply new → is_foreign reply ≡ false
acts history caller command reading draw call reply new is = elim is [
  | inl memory ↦ ap is_foreign memory.told
  | inr other ↦ elim other [
    | inl undrawn ↦ ap is_foreign undrawn.fault
    | inr acted ↦ does history acted.answer call reply new (may_follow history caller command reading acted.drawn acted.answer acted.answers) acted.does
  ]
]

asks : (history : List Entry) (caller : Caller) (command : Command) (given : Given) (reply : Reply) (new : Held) → Asks history caller command given reply new
    → is_foreign reply ≡ false
asks history caller command given reply new is = elim is [
  | inl fails ↦ ap is_foreign fails.fault
  | inr read ↦ acts history caller command read.reading given.draw given.call reply new read.acts
]

goes : (history : List Entry) (caller : Caller) (command : Command) (given : Given) (reply : Reply) (new : Held) → Goes history caller command given reply new
    → is_foreign reply ≡ false
goes history caller command given reply new is = elim is [
  | inl denies ↦ ap is_foreign denies.told
  | inr allowed ↦ asks history caller command given reply new allowed.1
]

-- another journal is told only on a remount
pub goes_native : (history : List Entry) (caller : Caller) (command : Command) (given : Given) (reply : Reply) (new : Held) → Goes history caller command given reply new
    → (at : ℕ) → reply ≢ JournalBad at
goes_native history caller command given reply new is at foreign =
    let wrong = sym (goes history caller command given reply new is) ∙ ap is_foreign foreign in cc wrong

-- ---- faults of the clock, the random draws and the signer

abbrev is_object_fault : Reply → Bool
is_object_fault ClockFault = true
is_object_fault EntropyFault = true
is_object_fault SignerFault = true
is_object_fault reply = false

sound : (reply : Reply) → is_failure reply ≡ false → is_object_fault reply ≡ false
sound ClockFault is = is
sound EntropyFault is = is
sound SignerFault is = is
sound reply is = refl

differs : (reply other : Reply) → is_object_fault reply ≡ false → is_object_fault other ≡ true → reply ≡ other → ⊥
differs reply other none fault is = let wrong = sym none ∙ ap is_object_fault is ∙ fault in cc wrong

no_fault : (given : Given) (reply : Reply) → is_object_fault reply ≡ false → HasFaults given reply
no_fault given reply none = record {
  clock = λ is. absurd (differs reply ClockFault none refl is);
  entropy = λ is. absurd (differs reply EntropyFault none refl is);
  signer = λ is. absurd (differs reply SignerFault none refl is);
}

clock_is_no_draw : ClockFault ≡ EntropyFault → ⊥
clock_is_no_draw is = cc is

clock_is_no_signer : ClockFault ≡ SignerFault → ⊥
clock_is_no_signer is = cc is

draw_is_no_signer : EntropyFault ≡ SignerFault → ⊥
draw_is_no_signer is = cc is

clock_fault : (given : Given) (reply : Reply) → reply ≡ ClockFault → given.reading ≡ Some None → HasFaults given reply
clock_fault given reply fault failed = record {
  clock = λ is. failed;
  entropy = λ is. absurd (clock_is_no_draw (sym fault ∙ is));
  signer = λ is. absurd (clock_is_no_signer (sym fault ∙ is));
}

entropy_fault : (given : Given) (reply : Reply) → reply ≡ EntropyFault → given.draw ≡ Some None → HasFaults given reply
entropy_fault given reply fault failed = record {
  clock = λ is. absurd (clock_is_no_draw (sym is ∙ fault));
  entropy = λ is. failed;
  signer = λ is. absurd (draw_is_no_signer (sym fault ∙ is));
}

signer_fault : (given : Given) (reply : Reply) (body : List ℕ) → reply ≡ SignerFault → given.call ≡ Some (record { body = body; signature = None }) → HasFaults given reply
signer_fault given reply body fault failed = record {
  clock = λ is. absurd (clock_is_no_signer (sym is ∙ fault));
  entropy = λ is. absurd (draw_is_no_signer (sym is ∙ fault));
  signer = λ is. (body, failed);
}

module _ (given : Given) (reply : Reply) (new : Held) where
  wrote_faults : (history : List Entry) (entry : Entry) → Wrote history entry reply new → HasFaults given reply
  wrote_faults history entry is = elim is [
    | inl committed ↦ no_fault given reply (ap is_object_fault committed.0 ∙ sound _ (kept entry.what entry.number))
    | inr lost ↦ no_fault given reply (ap is_object_fault lost.0)
  ]

  sent_faults : (history : List Entry) (entry : Entry) → Sent history entry given.call reply new → HasFaults given reply
  sent_faults history entry is = elim is [
    | inl unsent ↦ no_fault given reply (ap is_object_fault unsent.fault)
    | inr durable ↦ elim durable [
      | inl unsigned ↦ signer_fault given reply (body_in entry.what) unsigned.fault unsigned.called
      | inr signed ↦ elim signed.commits [
        | inl issued ↦ no_fault given reply (ap is_object_fault issued.0.told)
        | inr lost ↦ no_fault given reply (ap is_object_fault lost.0)
      ]
    ]
  ]

  does_faults : (history : List Entry) (answer : Answer) → MayFollow answer → Does answer history given.call reply new → HasFaults given reply
  does_faults history (Say told) may done = no_fault given reply (ap is_object_fault done.0 ∙ sound told may)
  does_faults history (Write entry) may done = wrote_faults history entry done.0
  does_faults history (Send entry) may done = sent_faults history entry done
  does_faults history NeedDraw may done = absurd done

  acts_faults : (history : List Entry) (caller : Caller) (command : Command) (reading : ℕ) → Acts history caller command reading given.draw given.call reply new
      → HasFaults given reply
  acts_faults history caller command reading is = elim is [
    | inl memory ↦ no_fault given reply (ap is_object_fault memory.told)
    | inr other ↦ elim other [
      | inl undrawn ↦ entropy_fault given reply undrawn.fault undrawn.failed
      | inr acted ↦ does_faults history acted.answer (may_follow history caller command reading acted.drawn acted.answer acted.answers) acted.does
    ]
  ]

  asks_faults : (history : List Entry) (caller : Caller) (command : Command) → Asks history caller command given reply new → HasFaults given reply
  asks_faults history caller command is = elim is [
    | inl fails ↦ clock_fault given reply fails.fault (ap (λ (g : Given). g.reading) fails.gave)
    | inr read ↦ acts_faults history caller command read.reading read.acts
  ]

  goes_faults : (history : List Entry) (caller : Caller) (command : Command) → Goes history caller command given reply new → HasFaults given reply
  goes_faults history caller command is = elim is [
    | inl denies ↦ no_fault given reply (ap is_object_fault denies.told)
    | inr allowed ↦ asks_faults history caller command allowed.1
  ]

  ends_faults : EndsRemount reply → HasFaults given reply
  ends_faults ends = elim ends [
    | inl disk ↦ no_fault given reply (ap is_object_fault disk)
    | inr other ↦ elim other [
      | inl memory ↦ no_fault given reply (ap is_object_fault memory)
      | inr journal ↦ no_fault given reply (ap is_object_fault journal.1)
    ]
  ]

pub move_faults : (old : Held) (caller : Caller) (command : Command) (given : Given) (reply : Reply) (new : Held) → Moves old caller command given reply new
    → HasFaults given reply
move_faults old caller command given reply new moves = elim moves [
  | inl fails ↦ ends_faults given reply new fails.ends
  | inr settled ↦ goes_faults given reply new settled.history caller command settled.goes
]
