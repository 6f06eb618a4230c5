-- What a move keeps of a history.
use Rattle.std.proofs.Common.{◌≡◌, ◌≢◌, ℕ, List, [], ◌∷◌, ◌++◌, Option, Some, None, refl, sym, ap, subst, ◌∙◌, inl, inr, append_assoc, append-nil}
use Rattle.std.specs.Prelude.{IfSome, option_to_list}
use Rattle.gate_base.specs.declared.sixteen.Sixteen.{Sixteen}
use Rattle.gate_entries.specs.declared.caller.Caller.{Caller}
use Rattle.gate_entries.specs.declared.command.Command.{Command}
use Rattle.gate_entries.specs.declared.entry.Entry.{Entry}
use Rattle.gate_entries.specs.declared.reply.Reply.{Reply}
use Rattle.gate_entries.specs.declared.reply.Reply.TheVariants.{DiskFault}
use Rattle.gate_machine.specs.declared.answer.Answer.{Answer}
use Rattle.gate_machine.specs.declared.answer.Answer.TheVariants.{Say, Write, Send, NeedDraw}
use Rattle.gate_machine.specs.History.{Follows, Legal}
use Rattle.gate_machine.specs.Sends.{signed_entry}
use Rattle.gate_machine.specs.Answer.{IsReady}
use Rattle.gate_machine.specs.Move.{Held, Holds, IsSound, Extends, SignerCall, Given, Waits, Wrote, Sent, Does, Acts, Goes, Settles, Moves}
use Rattle.gate_machine.proofs.Histories.{Legal-push}
use Rattle.gate_machine.proofs.Sends.{none_some}

-- ---- the history only grows, and stays legal

pub extends_same : (old new : List Entry) → new ≡ old → Extends old new
extends_same old new is = ([], is ∙ sym (append-nil old))

pub extends_more : (a b c : List Entry) → Extends a b → Extends b c → Extends a c
extends_more a b c first second = (first.0 ++ second.0, second.1 ∙ ap (λ (h : List Entry). h ++ second.0) first.1 ∙ append_assoc a first.0 second.0)

-- a legal history grows to a legal one
record Grows (history now : List Entry) : Type 0 where
  extends : Extends history now
  legal : Legal history → Legal now

record Leaves (history : List Entry) (new : Held) : Type 0 where
  extends : Extends history new.history
  sound : Legal history → IsSound new

stays : (history : List Entry) → Grows history history
stays history = record { extends = extends_same history history refl; legal = λ legal. legal }

one_more : (history : List Entry) (entry : Entry) → Follows history entry → Grows history (history ++ entry ∷ [])
one_more history entry follows = record { extends = (entry ∷ [], refl); legal = λ legal. Legal-push history entry legal.each follows }

both : (a b c : List Entry) → Grows a b → Grows b c → Grows a c
both a b c first second = record { extends = extends_more a b c first.extends second.extends; legal = λ legal. second.legal (first.legal legal) }

holds : (history now : List Entry) (new : Held) → Grows history now → Holds new now → Leaves history new
holds history now new grows held = record {
  extends = subst (λ (h : List Entry). Extends history h) (sym held.0) grows.extends;
  sound = λ legal. record {
    legal = subst Legal (sym held.0) (grows.legal legal);
    waits = subst (λ (o : Option Entry). IfSome o (λ entry. Follows new.history entry)) (sym held.1) tt;
  };
}

waits : (history now : List Entry) (entry : Entry) (new : Held) → Grows history now → Follows now entry → Waits now entry new → Leaves history new
waits history now entry new grows follows lost = record {
  extends = subst (λ (h : List Entry). Extends history h) (sym lost.same) grows.extends;
  sound = λ legal. record {
    legal = subst Legal (sym lost.same) (grows.legal legal);
    waits = subst (λ (o : Option Entry). IfSome o (λ entry. Follows new.history entry)) (sym lost.loose)
        (subst (λ (h : List Entry). Follows h entry) (sym lost.same) follows);
  };
}

module _ (reply : Reply) (new : Held) where
  wrote : (history : List Entry) (entry : Entry) → Follows history entry → Wrote history entry reply new → Leaves history new
  wrote history entry follows is = elim is [
    | inl committed ↦ holds history (history ++ entry ∷ []) new (one_more history entry follows) committed.1
    | inr lost ↦ waits history history entry new (stays history) follows lost.1
  ]

  sent : (history : List Entry) (entry : Entry) (call : Option SignerCall) → Follows history entry → Sent history entry call reply new → Leaves history new
  sent history entry call follows is =
      let more = one_more history entry follows in
      elim is [
        | inl unsent ↦ waits history history entry new (stays history) follows unsent.waits
        | inr durable ↦ elim durable [
          | inl unsigned ↦ holds history (history ++ entry ∷ []) new more unsigned.held
          | inr signed ↦ elim signed.commits [
            | inl issued ↦ holds history ((history ++ entry ∷ []) ++ signed_entry entry signed.signature ∷ []) new
                (both history (history ++ entry ∷ []) _ more (one_more (history ++ entry ∷ []) (signed_entry entry signed.signature) signed.follows)) issued.1
            | inr lost ↦ waits history (history ++ entry ∷ []) (signed_entry entry signed.signature) new more signed.follows lost.1
          ]
        ]
      ]

  does : (history : List Entry) (answer : Answer) (call : Option SignerCall) → IsReady history answer → Does answer history call reply new → Leaves history new
  does history (Say said) call ready is = holds history history new (stays history) is.1
  does history (Write entry) call ready is = wrote history entry ready.follows is.0
  does history (Send entry) call ready is = sent history entry call ready.follows is
  does history NeedDraw call ready is = absurd is

  acts : (history : List Entry) (caller : Caller) (command : Command) (reading : ℕ) (draw : Option (Option Sixteen)) (call : Option SignerCall)
      → Acts history caller command reading draw call reply new → Leaves history new
  acts history caller command reading draw call is = elim is [
    | inl memory ↦ holds history history new (stays history) memory.held
    | inr other ↦ elim other [
      | inl undrawn ↦ holds history history new (stays history) undrawn.held
      | inr acted ↦ does history acted.answer call acted.ready acted.does
    ]
  ]

  goes : (history : List Entry) (caller : Caller) (command : Command) (given : Given) → Goes history caller command given reply new → Leaves history new
  goes history caller command given is = elim is [
    | inl denies ↦ holds history history new (stays history) denies.held
    | inr allowed ↦ elim allowed.1 [
      | inl fails ↦ holds history history new (stays history) fails.held
      | inr read ↦ acts history caller command read.reading given.draw given.call read.acts
    ]
  ]

-- what is loose may come back
back : (history : List Entry) (loose : Option Entry) → Legal history → IfSome loose (λ entry. Follows history entry) → Legal (history ++ option_to_list loose)
back history None legal waits = subst Legal (sym (append-nil history)) legal
back history (Some entry) legal waits = Legal-push history entry legal.each waits

settles_extends : (old : Held) (history : List Entry) → Settles old history → Extends old.history history
settles_extends old history settles = elim settles [
  | inl same ↦ extends_same old.history history same
  | inr more ↦ (option_to_list old.loose, more)
]

settles_legal : (old : Held) (history : List Entry) → Settles old history → IsSound old → Legal history
settles_legal old history settles sound = elim settles [
  | inl same ↦ subst Legal (sym same) sound.legal
  | inr more ↦ subst Legal (sym more) (back old.history old.loose sound.legal sound.waits)
]

module _ (old : Held) (caller : Caller) (command : Command) (given : Given) (reply : Reply) (new : Held) (moves : Moves old caller command given reply new) where
  pub move_extends : Extends old.history new.history
  move_extends = elim moves [
    | inl fails ↦ extends_same old.history new.history (ap (λ (h : Held). h.history) fails.held)
    | inr settled ↦ extends_more old.history settled.history new.history (settles_extends old settled.history settled.settles)
        (goes reply new settled.history caller command given settled.goes).extends
  ]

  pub move_sound : IsSound old → IsSound new
  move_sound sound = elim moves [
    | inl fails ↦ subst IsSound (sym fails.held) sound
    | inr settled ↦ (goes reply new settled.history caller command given settled.goes).sound (settles_legal old settled.history settled.settles sound)
  ]

-- ---- nothing becomes loose without a fault of the disk

module _ (reply : Reply) (new : Held) (other : reply ≢ DiskFault) where
  does_settled : (history : List Entry) (answer : Answer) (call : Option SignerCall) → Does answer history call reply new → new.loose ≡ None
  does_settled history (Say said) call is = is.1.1
  does_settled history (Write entry) call is = elim is.0 [
    | inl committed ↦ committed.1.1
    | inr lost ↦ absurd (other lost.0)
  ]
  does_settled history (Send entry) call is = elim is [
    | inl unsent ↦ absurd (other unsent.fault)
    | inr durable ↦ elim durable [
      | inl unsigned ↦ unsigned.held.1
      | inr signed ↦ elim signed.commits [
        | inl issued ↦ issued.1.1
        | inr lost ↦ absurd (other lost.0)
      ]
    ]
  ]
  does_settled history NeedDraw call is = absurd is

  acts_settled : (history : List Entry) (caller : Caller) (command : Command) (reading : ℕ) (draw : Option (Option Sixteen)) (call : Option SignerCall)
      → Acts history caller command reading draw call reply new → new.loose ≡ None
  acts_settled history caller command reading draw call is = elim is [
    | inl memory ↦ memory.held.1
    | inr rest ↦ elim rest [
      | inl undrawn ↦ undrawn.held.1
      | inr acted ↦ does_settled history acted.answer call acted.does
    ]
  ]

  goes_settled : (history : List Entry) (caller : Caller) (command : Command) (given : Given) → Goes history caller command given reply new → new.loose ≡ None
  goes_settled history caller command given is = elim is [
    | inl denies ↦ denies.held.1
    | inr allowed ↦ elim allowed.1 [
      | inl fails ↦ fails.held.1
      | inr read ↦ acts_settled history caller command read.reading given.draw given.call read.acts
    ]
  ]

pub move_settled : (old : Held) (caller : Caller) (command : Command) (given : Given) (reply : Reply) (new : Held) → Moves old caller command given reply new
    → reply ≢ DiskFault → old.loose ≡ None → new.loose ≡ None
move_settled old caller command given reply new moves other none = elim moves [
  | inl fails ↦ absurd (none_some (sym none ∙ fails.was_loose))
  | inr settled ↦ goes_settled reply new other settled.history caller command given settled.goes
]
