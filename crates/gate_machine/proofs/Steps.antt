-- What steps keep, one after another.
use Rattle.std.proofs.Common.{◌≡◌, ℕ, ◌+◌, ◌≤◌, List, [], ◌∷◌, ◌++◌, Option, Some, None, refl, sym, ap, subst, ◌∙◌, arith}
use Rattle.std.proofs.lemmas.List.Sums.{sum_by-cons}
use Rattle.gate_base.specs.declared.sixteen.Sixteen.{Sixteen}
use Rattle.plant.specs.Plant.{SignerTold}
use Rattle.plant.specs.Causes.{Rose, RoseBy}
use Rattle.plant.specs.Clock.{ClockTold, Reads}
use Rattle.plant.specs.Entropy.{EntropyTold, Draws}
use Rattle.gate_entries.specs.declared.reply.Reply.{Reply}
use Rattle.gate_entries.specs.declared.reply.Reply.TheVariants.{ClockFault, EntropyFault, DiskFault, SignerFault}
use Rattle.gate_machine.specs.Move.{IsSound, Extends, SignerCall, Given, HasFaults}
use Rattle.gate_machine.specs.Step.{SignerFails, State, GivesSignature, GivesCall, GivesReading, GivesDraw, Item, Handles, Steps, tells_disk, tells_clock, tells_entropy, tells_signer, told_by, count_told, Counted, IsRecorded}
use Rattle.gate_machine.specs.Step.Item.{Exchange, Refusal}
use Rattle.gate_machine.proofs.Faults.{move_faults}
use Rattle.gate_machine.proofs.Moves.{extends_same, extends_more, move_extends, move_sound, move_settled}
use Rattle.gate_machine.proofs.Recorded.{step_recorded}

pub steps_more : (old mid new : State) (items : List Item) (item : Item) → Steps old items mid → Handles mid item new → Steps old (items ++ item ∷ []) new
steps_more old mid new [] item steps handles = (new, subst (λ (s : State). Handles s item new) steps handles, refl)
steps_more old mid new (first ∷ items) item steps handles = (steps.0, steps.1, steps_more steps.0 mid new items item steps.2 handles)

-- ---- the history

handles_extends : (old : State) (item : Item) (new : State) → Handles old item new → Extends old.held.history new.held.history
handles_extends old (Exchange asked) new step =
    move_extends old.held asked.caller asked.command step.given asked.reply new.held step.moves
handles_extends old (Refusal text) new same = extends_same old.held.history new.held.history (ap (λ (s : State). s.held.history) same)

pub steps_extends : (old : State) (items : List Item) (new : State) → Steps old items new → Extends old.held.history new.held.history
steps_extends old [] new steps = extends_same old.held.history new.held.history (ap (λ (s : State). s.held.history) steps)
steps_extends old (item ∷ items) new steps =
    extends_more old.held.history steps.0.held.history new.held.history (handles_extends old item steps.0 steps.1) (steps_extends steps.0 items new steps.2)

handles_sound : (old : State) (item : Item) (new : State) → Handles old item new → IsSound old.held → IsSound new.held
handles_sound old (Exchange asked) new step sound =
    move_sound old.held asked.caller asked.command step.given asked.reply new.held step.moves sound
handles_sound old (Refusal text) new same sound = subst (λ (s : State). IsSound s.held) (sym same) sound

pub steps_sound : (old : State) (items : List Item) (new : State) → Steps old items new → IsSound old.held → IsSound new.held
steps_sound old [] new steps sound = subst (λ (s : State). IsSound s.held) (sym steps) sound
steps_sound old (item ∷ items) new steps sound = steps_sound steps.0 items new steps.2 (handles_sound old item steps.0 steps.1 sound)

handles_recorded : (old : State) (item : Item) (new : State) → Handles old item new → IsRecorded old.outside.signer old.held.history
    → IsRecorded new.outside.signer new.held.history
handles_recorded old (Exchange asked) new step recorded = step_recorded old asked.caller asked.command asked.reply new step recorded
handles_recorded old (Refusal text) new same recorded = subst (λ (s : State). IsRecorded s.outside.signer s.held.history) (sym same) recorded

pub steps_recorded : (old : State) (items : List Item) (new : State) → Steps old items new → IsRecorded old.outside.signer old.held.history
    → IsRecorded new.outside.signer new.held.history
steps_recorded old [] new steps recorded = subst (λ (s : State). IsRecorded s.outside.signer s.held.history) (sym steps) recorded
steps_recorded old (item ∷ items) new steps recorded = steps_recorded steps.0 items new steps.2 (handles_recorded old item steps.0 steps.1 recorded)

-- ---- counts of faults

none_told : (before now : ℕ) → before ≤ now → RoseBy 0 before now
none_told before now later = omega (arith, later)

same_count : (before now : ℕ) → now ≡ before → RoseBy 0 before now
same_count before now same = omega (arith, same)

disk_told : (old new : State) (reply : Reply) → old.disk_faults ≤ new.disk_faults → (reply ≡ DiskFault → Rose old.disk_faults new.disk_faults)
    → RoseBy (tells_disk reply) old.disk_faults new.disk_faults
disk_told old new DiskFault later cause = cause refl
disk_told old new reply later cause = none_told old.disk_faults new.disk_faults later

clock_later : (clock clock' : ClockTold) (reading : Option (Option ℕ)) → GivesReading clock clock' reading → RoseBy 0 clock.faults clock'.faults
clock_later clock clock' None gives = same_count clock.faults clock'.faults (ap (λ (c : ClockTold). c.faults) gives)
clock_later clock clock' (Some reading) gives = none_told clock.faults clock'.faults gives.later

clock_failed : (clock clock' : ClockTold) (reading : Option (Option ℕ)) → reading ≡ Some None → GivesReading clock clock' reading → Rose clock.faults clock'.faults
clock_failed clock clock' reading failed gives =
    let reads : Reads clock clock' None = subst (λ (r : Option (Option ℕ)). GivesReading clock clock' r) failed gives in
    reads.failed

clock_told : (clock clock' : ClockTold) (given : Given) (reply : Reply) → HasFaults given reply → GivesReading clock clock' given.reading
    → RoseBy (tells_clock reply) clock.faults clock'.faults
clock_told clock clock' given ClockFault has gives = clock_failed clock clock' given.reading (has.clock refl) gives
clock_told clock clock' given reply has gives = clock_later clock clock' given.reading gives

entropy_later : (entropy entropy' : EntropyTold) (draw : Option (Option Sixteen)) → GivesDraw entropy entropy' draw → RoseBy 0 entropy.faults entropy'.faults
entropy_later entropy entropy' None gives = same_count entropy.faults entropy'.faults (ap (λ (e : EntropyTold). e.faults) gives)
entropy_later entropy entropy' (Some draw) gives = none_told entropy.faults entropy'.faults gives.later

entropy_failed : (entropy entropy' : EntropyTold) (draw : Option (Option Sixteen)) → draw ≡ Some None → GivesDraw entropy entropy' draw → Rose entropy.faults entropy'.faults
entropy_failed entropy entropy' draw failed gives =
    let draws : Draws entropy entropy' None = subst (λ (d : Option (Option Sixteen)). GivesDraw entropy entropy' d) failed gives in
    draws.failed

entropy_told : (entropy entropy' : EntropyTold) (given : Given) (reply : Reply) → HasFaults given reply → GivesDraw entropy entropy' given.draw
    → RoseBy (tells_entropy reply) entropy.faults entropy'.faults
entropy_told entropy entropy' given EntropyFault has gives = entropy_failed entropy entropy' given.draw (has.entropy refl) gives
entropy_told entropy entropy' given reply has gives = entropy_later entropy entropy' given.draw gives

signature_later : (signer signer' : SignerTold) (body : List ℕ) (signature : Option (List ℕ)) → GivesSignature signer signer' body signature
    → RoseBy 0 signer.faults signer'.faults
signature_later signer signer' body None gives = omega (arith, gives.cause)
signature_later signer signer' body (Some signature) gives = none_told signer.faults signer'.faults gives.later

signer_later : (signer signer' : SignerTold) (call : Option SignerCall) → GivesCall signer signer' call → RoseBy 0 signer.faults signer'.faults
signer_later signer signer' None gives = same_count signer.faults signer'.faults (ap (λ (s : SignerTold). s.faults) gives)
signer_later signer signer' (Some call) gives = signature_later signer signer' call.body call.signature gives

signer_failed : (signer signer' : SignerTold) (call : Option SignerCall) (body : List ℕ) → call ≡ Some (record { body = body; signature = None })
    → GivesCall signer signer' call → Rose signer.faults signer'.faults
signer_failed signer signer' call body failed gives =
    let fails : SignerFails signer signer' body = subst (λ (c : Option SignerCall). GivesCall signer signer' c) failed gives in
    fails.cause

signer_told : (signer signer' : SignerTold) (given : Given) (reply : Reply) → HasFaults given reply → GivesCall signer signer' given.call
    → RoseBy (tells_signer reply) signer.faults signer'.faults
signer_told signer signer' given SignerFault has gives = signer_failed signer signer' given.call (has.signer refl).0 (has.signer refl).1 gives
signer_told signer signer' given reply has gives = signer_later signer signer' given.call gives

-- each count rose by as many as one item tells
record OneCounted (old : State) (item : Item) (new : State) : Type 0 where
  disk : RoseBy (told_by tells_disk item) old.disk_faults new.disk_faults
  clock : RoseBy (told_by tells_clock item) old.outside.clock.faults new.outside.clock.faults
  entropy : RoseBy (told_by tells_entropy item) old.outside.entropy.faults new.outside.entropy.faults
  signer : RoseBy (told_by tells_signer item) old.outside.signer.faults new.outside.signer.faults

handles_counted : (old : State) (item : Item) (new : State) → Handles old item new → OneCounted old item new
handles_counted old (Exchange asked) new step =
    let has = move_faults old.held asked.caller asked.command step.given asked.reply new.held step.moves in
    record {
      disk = disk_told old new asked.reply step.later step.cause;
      clock = clock_told old.outside.clock new.outside.clock step.given asked.reply has step.gives.reading;
      entropy = entropy_told old.outside.entropy new.outside.entropy step.given asked.reply has step.gives.draw;
      signer = signer_told old.outside.signer new.outside.signer step.given asked.reply has step.gives.call;
    }
handles_counted old (Refusal text) new same = record {
  disk = same_count old.disk_faults new.disk_faults (ap (λ (s : State). s.disk_faults) same);
  clock = same_count old.outside.clock.faults new.outside.clock.faults (ap (λ (s : State). s.outside.clock.faults) same);
  entropy = same_count old.outside.entropy.faults new.outside.entropy.faults (ap (λ (s : State). s.outside.entropy.faults) same);
  signer = same_count old.outside.signer.faults new.outside.signer.faults (ap (λ (s : State). s.outside.signer.faults) same);
}

rose_more : (n m sum a b c : ℕ) → sum ≡ n + m → RoseBy n a b → RoseBy m b c → RoseBy sum a c
rose_more n m sum a b c is first second = omega (arith, is, first, second)

pub steps_counted : (old : State) (items : List Item) (new : State) → Steps old items new → Counted old items new
steps_counted old [] new steps = record {
  disk = same_count old.disk_faults new.disk_faults (ap (λ (s : State). s.disk_faults) steps);
  clock = same_count old.outside.clock.faults new.outside.clock.faults (ap (λ (s : State). s.outside.clock.faults) steps);
  entropy = same_count old.outside.entropy.faults new.outside.entropy.faults (ap (λ (s : State). s.outside.entropy.faults) steps);
  signer = same_count old.outside.signer.faults new.outside.signer.faults (ap (λ (s : State). s.outside.signer.faults) steps);
}
steps_counted old (item ∷ items) new steps =
    let first = handles_counted old item steps.0 steps.1 in
    let later = steps_counted steps.0 items new steps.2 in
    let cons : (tells : Reply → ℕ) → count_told tells (item ∷ items) ≡ told_by tells item + count_told tells items = λ tells. sum_by-cons (told_by tells) item items in
    record {
      disk = rose_more _ _ _ old.disk_faults steps.0.disk_faults new.disk_faults (cons tells_disk) first.disk later.disk;
      clock = rose_more _ _ _ old.outside.clock.faults steps.0.outside.clock.faults new.outside.clock.faults (cons tells_clock) first.clock later.clock;
      entropy = rose_more _ _ _ old.outside.entropy.faults steps.0.outside.entropy.faults new.outside.entropy.faults (cons tells_entropy) first.entropy later.entropy;
      signer = rose_more _ _ _ old.outside.signer.faults steps.0.outside.signer.faults new.outside.signer.faults (cons tells_signer) first.signer later.signer;
    }

-- ---- nothing becomes loose without a fault of the disk

handles_later : (old : State) (item : Item) (new : State) → Handles old item new → old.disk_faults ≤ new.disk_faults
handles_later old (Exchange asked) new step = step.later
handles_later old (Refusal text) new same = let is = ap (λ (s : State). s.disk_faults) same in omega (arith, is)

pub steps_later : (old : State) (items : List Item) (new : State) → Steps old items new → old.disk_faults ≤ new.disk_faults
steps_later old [] new steps = let same = ap (λ (s : State). s.disk_faults) steps in omega (arith, same)
steps_later old (item ∷ items) new steps = omega (arith, handles_later old item steps.0 steps.1, steps_later steps.0 items new steps.2)

rose_before : (a b c : ℕ) → b ≤ c → Rose a b → Rose a c
rose_before a b c le rose = omega (arith, le, rose)

rose_behind : (a b c : ℕ) → a ≤ b → Rose b c → Rose a c
rose_behind a b c le rose = omega (arith, le, rose)

handles_settled : (old : State) (item : Item) (new : State) → Handles old item new → old.held.loose ≡ None → (Rose old.disk_faults new.disk_faults → ⊥)
    → new.held.loose ≡ None
handles_settled old (Exchange asked) new step none same =
    move_settled old.held asked.caller asked.command step.given asked.reply new.held step.moves (λ is. same (step.cause is)) none
handles_settled old (Refusal text) new is none same = ap (λ (s : State). s.held.loose) is ∙ none

pub steps_settled : (old : State) (items : List Item) (new : State) → Steps old items new → old.held.loose ≡ None → (Rose old.disk_faults new.disk_faults → ⊥)
    → new.held.loose ≡ None
steps_settled old [] new steps none same = ap (λ (s : State). s.held.loose) steps ∙ none
steps_settled old (item ∷ items) new steps none same =
    let later = steps_later steps.0 items new steps.2 in
    let settled = handles_settled old item steps.0 steps.1 none (λ rose. same (rose_before _ _ _ later rose)) in
    steps_settled steps.0 items new steps.2 settled (λ rose. same (rose_behind _ _ _ (handles_later old item steps.0 steps.1) rose))
