-- Each body that the signer was sent has an entry of its own.
use Rattle.std.proofs.Common.{◌≡◌, ℕ, true, List, [], ◌∷◌, ◌++◌, Option, Some, None, refl, sym, ap, subst, ◌∙◌, inl, inr, append-nil}
use Rattle.std.specs.Prelude.{IfSome, option_to_list}
use Rattle.std.specs.Option.{option_map}
use Rattle.std.proofs.lemmas.Grind.{flat_map-append}
use Rattle.plant.specs.Plant.{SignerTold}
use Rattle.gate_entries.specs.declared.caller.Caller.{Caller}
use Rattle.gate_entries.specs.declared.command.Command.{Command}
use Rattle.gate_entries.specs.declared.entry.Entry.{Entry}
use Rattle.gate_entries.specs.declared.reply.Reply.{Reply}
use Rattle.gate_machine.specs.declared.answer.Answer.{Answer}
use Rattle.gate_machine.specs.declared.answer.Answer.TheVariants.{Say, Write, Send, NeedDraw}
use Rattle.gate_entries.specs.declared.entry.What.{What}
use Rattle.gate_entries.specs.declared.entry.What.TheVariants as whats
use Rattle.gate_machine.specs.Sends.{is_send_for, order_in, body_in, sent_by, Within}
use Rattle.gate_machine.specs.Move.{Held, SignerCall, Given, Settles, Wrote, Sent, Does, Acts, Asks, Goes, Moves}
use Rattle.gate_machine.specs.Step.{SignerFails, Signs, GivesCall, State, Step, bodies_of, IsRecorded}
use Rattle.gate_base.specs.declared.sixteen.Sixteen.{Sixteen}
use Rattle.gate_machine.proofs.Faults.{MayFollow, may_follow}

within_more : (sent all more : List (List ℕ)) → Within sent all → Within sent (all ++ more)
within_more [] all more within = tt
within_more (body ∷ sent) [] more within = absurd within
within_more (body ∷ sent) (first ∷ all) more within = elim within [
  | inl here ↦ inl (here.0, within_more sent all more here.1)
  | inr later ↦ inr (within_more (body ∷ sent) all more later)
]

within_last : (all : List (List ℕ)) (body : List ℕ) → Within (body ∷ []) (all ++ body ∷ [])
within_last [] body = inl (refl, tt)
within_last (first ∷ all) body = inr (within_last all body)

within_both : (sent all : List (List ℕ)) (body : List ℕ) → Within sent all → Within (sent ++ body ∷ []) (all ++ body ∷ [])
within_both [] all body within = within_last all body
within_both (first ∷ sent) [] body within = absurd within
within_both (first ∷ sent) (other ∷ all) body within = elim within [
  | inl here ↦ inl (here.0, within_both sent all body here.1)
  | inr later ↦ inr (within_both (first ∷ sent) all body later)
]

more_entries : (signer : SignerTold) (told : Option (List (List ℕ))) → signer.sent ≡ told → (history more : List Entry) → IsRecorded signer history
    → IfSome told (λ sent. Within sent (bodies_of (history ++ more)))
more_entries signer None is history more recorded = tt
more_entries signer (Some sent) is history more recorded =
    let now : Within sent (bodies_of history) = subst (λ (o : Option (List (List ℕ))). IfSome o (λ sent. Within sent (bodies_of history))) is recorded in
    subst (λ (all : List (List ℕ)). Within sent all) (sym (flat_map-append (λ (e : Entry). sent_by e.what) history more))
    (within_more sent (bodies_of history) (bodies_of more) now)

recorded_more : (signer : SignerTold) (history more : List Entry) → IsRecorded signer history → IsRecorded signer (history ++ more)
recorded_more signer history more recorded = more_entries signer signer.sent refl history more recorded

as_same : (signer signer' : SignerTold) (history : List Entry) → signer' ≡ signer → IsRecorded signer history → IsRecorded signer' history
as_same signer signer' history same recorded = subst (λ (s : SignerTold). IsRecorded s history) (sym same) recorded

-- the list of what was sent has one body more, and so has the history
one_more : (sent sent' : Option (List (List ℕ))) (body : List ℕ) (all : List (List ℕ)) → sent' ≡ option_map (λ (list : List (List ℕ)). list ++ body ∷ []) sent
    → IfSome sent (λ sent. Within sent all) → IfSome sent' (λ sent. Within sent (all ++ body ∷ []))
one_more None sent' body all is within = subst (λ (o : Option (List (List ℕ))). IfSome o (λ sent. Within sent (all ++ body ∷ []))) (sym is) tt
one_more (Some sent) sent' body all is within =
    subst (λ (o : Option (List (List ℕ))). IfSome o (λ sent. Within sent (all ++ body ∷ []))) (sym is) (within_both sent all body within)

module _ (history : List Entry) (entry : Entry) (sends : sent_by entry.what ≡ body_in entry.what ∷ []) where
  all_bodies : bodies_of (history ++ entry ∷ []) ≡ bodies_of history ++ body_in entry.what ∷ []
  all_bodies =
      flat_map-append (λ (e : Entry). sent_by e.what) history (entry ∷ [])
      ∙ ap (λ (l : List (List ℕ)). bodies_of history ++ l) (append-nil (sent_by entry.what) ∙ sends)

  added : (signer signer' : SignerTold) → signer'.sent ≡ option_map (λ (list : List (List ℕ)). list ++ body_in entry.what ∷ []) signer.sent
      → IsRecorded signer history → IsRecorded signer' (history ++ entry ∷ [])
  added signer signer' is recorded =
      subst (λ (all : List (List ℕ)). IfSome signer'.sent (λ sent. Within sent all)) (sym all_bodies)
      (one_more signer.sent signer'.sent (body_in entry.what) (bodies_of history) is recorded)

  kept_list : (signer signer' : SignerTold) → signer'.sent ≡ signer.sent → IsRecorded signer history → IsRecorded signer' (history ++ entry ∷ [])
  kept_list signer signer' is recorded =
      subst (λ (o : Option (List (List ℕ))). IfSome o (λ sent. Within sent (bodies_of (history ++ entry ∷ [])))) (sym is)
      (recorded_more signer history (entry ∷ []) recorded)

pub within_entries : (sent : List (List ℕ)) (history more : List Entry) → Within sent (bodies_of history) → Within sent (bodies_of (history ++ more))
within_entries sent history more within =
    subst (λ (all : List (List ℕ)). Within sent all) (sym (flat_map-append (λ (e : Entry). sent_by e.what) history more))
    (within_more sent (bodies_of history) (bodies_of more) within)

sends_its_body : (what : What) → is_send_for (order_in what) what ≡ true → sent_by what ≡ body_in what ∷ []
sends_its_body (whats.Send order body) is = refl
sends_its_body (whats.Settings bytes) is = absurd cc
sends_its_body (whats.Order key common days targets request) is = absurd cc
sends_its_body (whats.Challenge key order method target value thumb) is = absurd cc
sends_its_body (whats.Observation key challenge seen_at seen) is = absurd cc
sends_its_body (whats.CaaAnswer key order target seen_at answers) is = absurd cc
sends_its_body (whats.Signed order signature) is = absurd cc
sends_its_body (whats.Blocked key spki) is = absurd cc

pub within_sent : (sent : List (List ℕ)) (history : List Entry) (entry : Entry) → is_send_for (order_in entry.what) entry.what ≡ true
    → Within sent (bodies_of history) → Within (sent ++ body_in entry.what ∷ []) (bodies_of (history ++ entry ∷ []))
within_sent sent history entry is within =
    subst (λ (all : List (List ℕ)). Within (sent ++ body_in entry.what ∷ []) all) (sym (all_bodies history entry (sends_its_body entry.what is)))
    (within_both sent (bodies_of history) (body_in entry.what) within)

as_history : (signer : SignerTold) (history now : List Entry) → now ≡ history → IsRecorded signer history → IsRecorded signer now
as_history signer history now is recorded = subst (λ (h : List Entry). IsRecorded signer h) (sym is) recorded

-- what was sent is recorded where the call of the signer gave what it was said to give
module _ (signer signer' : SignerTold) (call : Option SignerCall) (gives : GivesCall signer signer' call) where
  uncalled : (history now : List Entry) → call ≡ None → now ≡ history → IsRecorded signer history → IsRecorded signer' now
  uncalled history now none is recorded =
      let same : signer' ≡ signer = subst (λ (c : Option SignerCall). GivesCall signer signer' c) none gives in
      as_history signer' history now is (as_same signer signer' history same recorded)

  sent : (history : List Entry) (entry : Entry) (reply : Reply) (new : Held) → sent_by entry.what ≡ body_in entry.what ∷ [] → Sent history entry call reply new
      → IsRecorded signer history → IsRecorded signer' new.history
  sent history entry reply new sends is recorded = elim is [
    | inl unsent ↦ uncalled history new.history unsent.uncalled unsent.waits.same recorded
    | inr durable ↦ elim durable [
      | inl unsigned ↦ (
          let fails : SignerFails signer signer' (body_in entry.what) = subst (λ (c : Option SignerCall). GivesCall signer signer' c) unsigned.called gives in
          as_history signer' _ new.history unsigned.held.0 (elim fails.sent [
            | inl same ↦ kept_list history entry sends signer signer' same recorded
            | inr more ↦ added history entry sends signer signer' more recorded
          ])
          )
      | inr signed ↦ (
          let signs : Signs signer signer' (body_in entry.what) signed.signature = subst (λ (c : Option SignerCall). GivesCall signer signer' c) signed.called gives in
          let now = added history entry sends signer signer' signs.sent recorded in
          elim signed.commits [
            | inl issued ↦ as_history signer' _ new.history issued.1.0 (recorded_more signer' (history ++ entry ∷ []) _ now)
            | inr lost ↦ as_history signer' _ new.history lost.1.same now
          ]
          )
    ]
  ]

  wrote : (history : List Entry) (entry : Entry) (reply : Reply) (new : Held) → call ≡ None → Wrote history entry reply new → IsRecorded signer history
      → IsRecorded signer' new.history
  wrote history entry reply new none is recorded =
      let now : IsRecorded signer' history = uncalled history history none refl recorded in
      elim is [
        | inl committed ↦ as_history signer' _ new.history committed.1.0 (recorded_more signer' history (entry ∷ []) now)
        | inr lost ↦ as_history signer' _ new.history lost.1.same now
      ]

  does : (history : List Entry) (answer : Answer) (reply : Reply) (new : Held) → MayFollow answer → Does answer history call reply new → IsRecorded signer history
      → IsRecorded signer' new.history
  does history (Say told) reply new may done recorded = uncalled history new.history done.2 done.1.0 recorded
  does history (Write entry) reply new may done recorded = wrote history entry reply new done.1 done.0 recorded
  does history (Send entry) reply new may done recorded = sent history entry reply new may done recorded
  does history NeedDraw reply new may done recorded = absurd done

  acts : (history : List Entry) (caller : Caller) (command : Command) (reading : ℕ) (draw : Option (Option Sixteen)) (reply : Reply) (new : Held)
      → Acts history caller command reading draw call reply new → IsRecorded signer history → IsRecorded signer' new.history
  acts history caller command reading draw reply new is recorded = elim is [
    | inl memory ↦ uncalled history new.history memory.uncalled memory.held.0 recorded
    | inr other ↦ elim other [
      | inl undrawn ↦ uncalled history new.history undrawn.uncalled undrawn.held.0 recorded
      | inr acted ↦ does history acted.answer reply new (may_follow history caller command reading acted.drawn acted.answer acted.answers) acted.does recorded
    ]
  ]

module _ (signer signer' : SignerTold) (given : Given) (gives : GivesCall signer signer' given.call) where
  asks : (history : List Entry) (caller : Caller) (command : Command) (reply : Reply) (new : Held) → Asks history caller command given reply new
      → IsRecorded signer history → IsRecorded signer' new.history
  asks history caller command reply new is recorded = elim is [
    | inl fails ↦ uncalled signer signer' given.call gives history new.history (ap (λ (g : Given). g.call) fails.gave) fails.held.0 recorded
    | inr read ↦ acts signer signer' given.call gives history caller command read.reading given.draw reply new read.acts recorded
  ]

  goes : (history : List Entry) (caller : Caller) (command : Command) (reply : Reply) (new : Held) → Goes history caller command given reply new
      → IsRecorded signer history → IsRecorded signer' new.history
  goes history caller command reply new is recorded = elim is [
    | inl denies ↦ uncalled signer signer' given.call gives history new.history (ap (λ (g : Given). g.call) denies.gave) denies.held.0 recorded
    | inr allowed ↦ asks history caller command reply new allowed.1 recorded
  ]

  settled_recorded : (old : Held) (history : List Entry) → Settles old history → IsRecorded signer old.history → IsRecorded signer history
  settled_recorded old history settles recorded = elim settles [
    | inl same ↦ as_history signer _ history same recorded
    | inr more ↦ as_history signer _ history more (recorded_more signer old.history (option_to_list old.loose) recorded)
  ]

  move_recorded : (old : Held) (caller : Caller) (command : Command) (reply : Reply) (new : Held) → Moves old caller command given reply new
      → IsRecorded signer old.history → IsRecorded signer' new.history
  move_recorded old caller command reply new moves recorded = elim moves [
    | inl fails ↦ uncalled signer signer' given.call gives old.history new.history (ap (λ (g : Given). g.call) fails.gave) (ap (λ (h : Held). h.history) fails.held) recorded
    | inr settled ↦ goes settled.history caller command reply new settled.goes (settled_recorded old settled.history settled.settles recorded)
  ]

pub step_recorded : (old : State) (caller : Caller) (command : Command) (reply : Reply) (new : State) → Step old caller command reply new
    → IsRecorded old.outside.signer old.held.history → IsRecorded new.outside.signer new.held.history
step_recorded old caller command reply new step recorded =
    move_recorded old.outside.signer new.outside.signer step.given step.gives.call old.held caller command reply new.held step.moves recorded
