-- What a start and its messages make of a session.
use Rattle.std.proofs.Common.{◌≡◌, ◌≢◌, ℕ, ◌≤◌, inl, inr, List, [], ◌∷◌, ◌++◌, length, Some, None, refl, sym, ap, subst, ◌∙◌, append_assoc, append-nil, arith}
use Rattle.std.specs.Option.{ForSome}
use Rattle.plant.specs.Causes.{Rose}
use Rattle.plant.specs.Plant.{SignerTold, PlantTold}
use Rattle.plant.specs.Stops.{Stops}
use Rattle.plant.specs.Clock.{ClockTold}
use Rattle.plant.specs.Entropy.{EntropyTold}
use Rattle.plant.specs.Stream.{SourceTold, SinkTold}
use Rattle.gate_settings.specs.declared.row.CallerRow.{CallerRow}
use Rattle.gate_settings.specs.declared.settings.Settings.{Settings}
use Rattle.gate_settings.specs.Meaning.{settings_of}
use Rattle.gate_machine.specs.Commands.Settings.{AreInForce}
use Rattle.gate_entries.specs.declared.entry.Entry.{Entry}
use Rattle.gate_machine.specs.History.{Legal}
use Rattle.gate_machine.specs.Sends.{HasOneBodyEach}
use Rattle.gate_machine.specs.Serials.{HasOneOrderEach}
use Rattle.gate_machine.specs.Move.{Held, IsSound, Extends}
use Rattle.gate_machine.specs.Step.{State, Item, Handles, Steps, Counted, IsRecorded}
use Rattle.gate_engine.specs.declared.fault.StartFault.{StartFault}
use Rattle.gate_engine.specs.declared.fault.StartFault.TheVariants as starts
use Rattle.gate_engine.specs.Engine.{IsOutside, state_of}
use Rattle.gate_engine.specs.Start.{KeepsDisk, Started, RefusesStart}
use Rattle.gate_engine.specs.Kept.{Stands, IsSentOf, Kept}
use Rattle.gate_server.specs.declared.status.Status.{Status}
use Rattle.gate_server.specs.declared.status.Status.TheVariants as statuses
use Rattle.gate_server.specs.Session.{Talk, talk_of, begun, Rests, BreaksOff, Ends, Ended}
use Rattle.gate_server.specs.Run.{Outside, outside_of, Resumed, IsStartStatus, HoldsSession}

pub refused_of : (settings : List ℕ) (plant plant' : PlantTold) (stops stops' : Stops) (clock clock' : ClockTold) (entropy : EntropyTold) (source : SourceTold) (sink : SinkTold)
    (fault : StartFault) (status : Status) → IsStartStatus fault status → RefusesStart settings plant.disk.bytes clock clock' fault
    → ForSome plant.disk.bytes (λ bytes. (found : Held) → IsSound found → Stands found stops → IsOutside fault)
    → (fault ≡ starts.Disk → Rose plant.disk.faults plant'.disk.faults) → (fault ≢ starts.Disk → KeepsDisk plant plant' stops stops') → plant'.signer ≡ plant.signer
    → HoldsSession settings (outside_of plant stops clock entropy source sink) (outside_of plant' stops' clock' entropy source sink) status
refused_of settings plant plant' stops stops' clock clock' entropy source sink fault status told refused good cause same signer =
    inl (record {
      fault = fault;
      told = told;
      refused = refused;
      good = good;
      cause = cause;
      same = same;
      signer = signer;
      entropy = refl;
      source = refl;
      sink = refl;
    })

-- what a start told is what a session resumes
resumed_of : (settings : List ℕ) (old : Outside) (mounted : PlantTold) (mounted_stops : Stops) (ticked : ClockTold) (before : Held)
    → Started settings old.plant mounted old.stops mounted_stops old.clock ticked before → Resumed settings old mounted ticked before
resumed_of settings old mounted mounted_stops ticked before started = record {
  found = started.found;
  legal = started.legal;
  journal = started.journal;
  settles = started.settles;
  starts = elim started.starts [
    | inl unchanged ↦ inl (record { same = unchanged.same; unread = unchanged.unread; held = unchanged.held; unwritten = unchanged.keeps.bytes })
    | inr renewed ↦ inr renewed
  ];
}

pub extends_on : (first mid last : List Entry) → Extends first mid → Extends mid last → Extends first last
extends_on first mid last left right = (
  left.0 ++ right.0,
  right.1 ∙ ap (λ (l : List Entry). l ++ right.0) left.1 ∙ append_assoc first left.0 right.0,
)

-- the items that were answered, and at most one whose text was not put whole
record AllSteps (old new : State) (items : List Item) : Type 0 where
  broken : List Item
  one_at_most : length broken ≤ 1
  steps : Steps old (items ++ broken) new

module _ (rows : List CallerRow)
    (steps_more : (old mid new : State) (items : List Item) (item : Item) → Steps old items mid → Handles mid item new → Steps old (items ++ item ∷ []) new) where
  all_rest : (old : State) (last new : Talk) (items : List Item) → Steps old items last.state → Rests last new → AllSteps old new.state items
  all_rest old last new items steps rests = record {
    broken = [];
    one_at_most = omega arith;
    steps = subst (λ (s : State). Steps old (items ++ []) s) (sym rests.state) (subst (λ (l : List Item). Steps old l last.state) (sym (append-nil items)) steps);
  }

  all_break : (old : State) (last new : Talk) (items : List Item) → Steps old items last.state → BreaksOff rows last new → AllSteps old new.state items
  all_break old last new items steps off = record {
    broken = off.item ∷ [];
    one_at_most = omega arith;
    steps = steps_more old last.state new.state items off.item steps off.exchanges.handles;
  }

  all_steps : (status : Status) (old : State) (last new : Talk) (items : List Item) → Steps old items last.state → Ends rows status last new → AllSteps old new.state items
  all_steps statuses.Ok old last new items steps ends = all_rest old last new items steps ends.0
  all_steps statuses.NotBuilt old last new items steps ends = all_rest old last new items steps ends.0
  all_steps (statuses.ReadFault settings) old last new items steps ends = all_rest old last new items steps ends.1
  all_steps statuses.StreamLong old last new items steps ends = all_rest old last new items steps ends.0
  all_steps statuses.WriteFault old last new items steps ends = all_break old last new items steps ends.0
  all_steps statuses.NoMemory old last new items steps ends = elim ends [
    | inl rests ↦ all_rest old last new items steps rests
    | inr off ↦ all_break old last new items steps off
  ]
  all_steps (statuses.SettingsBad rule item) old last new items steps ends = absurd ends
  all_steps statuses.Full old last new items steps ends = absurd ends
  all_steps statuses.Usage old last new items steps ends = absurd ends
  all_steps statuses.NotBegun old last new items steps ends = absurd ends
  all_steps (statuses.NotEmpty count) old last new items steps ends = absurd ends
  all_steps (statuses.JournalBad at) old last new items steps ends = absurd ends
  all_steps statuses.DiskFault old last new items steps ends = absurd ends
  all_steps statuses.ClockFault old last new items steps ends = absurd ends
  all_steps (statuses.ClockRange reading) old last new items steps ends = absurd ends

rose_behind : (a b c : ℕ) → a ≤ b → Rose b c → Rose a c
rose_behind a b c le rose = omega (arith, le, rose)

module _ (steps_more : (old mid new : State) (items : List Item) (item : Item) → Steps old items mid → Handles mid item new → Steps old (items ++ item ∷ []) new)
    (steps_extend : (old : State) (items : List Item) (new : State) → Steps old items new → Extends old.held.history new.held.history)
    (steps_recorded : (old : State) (items : List Item) (new : State) → Steps old items new → IsRecorded old.outside.signer old.held.history
    → IsRecorded new.outside.signer new.held.history)
    (steps_counted : (old : State) (items : List Item) (new : State) → Steps old items new → Counted old items new)
    (steps_settled : (old : State) (items : List Item) (new : State) → Steps old items new → old.held.loose ≡ None → (Rose old.disk_faults new.disk_faults → ⊥)
    → new.held.loose ≡ None) where
  pub ended_extends : (rows : List CallerRow) (mounted : PlantTold) (ticked : ClockTold) (entropy : EntropyTold) (source : SourceTold) (sink : SinkTold) (new : Outside) (status : Status)
      (before after : Held) → Ended rows status (talk_of before mounted ticked entropy begun source sink) after new.plant new.clock new.entropy new.source new.sink
      → Extends before.history after.history
  ended_extends rows mounted ticked entropy source sink new status before after ended =
      let first = state_of before mounted ticked entropy in
      let all = all_steps rows steps_more status first ended.last (talk_of after new.plant new.clock new.entropy ended.stream new.source new.sink) ended.talked.items
      ended.talked.steps ended.ends in
      steps_extend first (ended.talked.items ++ all.broken) (state_of after new.plant new.clock new.entropy) all.steps

  pub session_of : (settings : List ℕ) (says : Settings) (old new : Outside) (mounted : PlantTold) (mounted_stops : Stops) (ticked : ClockTold) (status : Status) (before after : Held)
      → settings_of settings ≡ Some says → before.loose ≡ None → Legal before.history → AreInForce settings before.history
      → Started settings old.plant mounted old.stops mounted_stops old.clock ticked before
      → old.plant.disk.faults ≤ mounted.disk.faults → mounted.signer ≡ old.plant.signer
      → Ended says.callers status (talk_of before mounted ticked old.entropy begun old.source old.sink) after new.plant new.clock new.entropy new.source new.sink
      → Legal after.history → HasOneBodyEach after.history → HasOneOrderEach after.history → IsSound after → Stands after new.stops
      → ((found : Held) → IsSound found → Kept found old.stops → IsSentOf after.history new.stops) → HoldsSession settings old new status
  session_of settings says old new mounted mounted_stops ticked status before after read settled legal in_force started later signer ended legal_after one_body one_order sound stands
      recorded_stops =
      let first = state_of before mounted ticked old.entropy in
      let last = state_of after new.plant new.clock new.entropy in
      let all = all_steps says.callers steps_more status first ended.last (talk_of after new.plant new.clock new.entropy ended.stream new.source new.sink) ended.talked.items
      ended.talked.steps ended.ends in
      let items = ended.talked.items ++ all.broken in
      inr (record {
        says = says;
        read = read;
        before = before;
        settled = settled;
        legal = legal;
        in_force = in_force;
        mounted = mounted;
        ticked = ticked;
        resumed = resumed_of settings old mounted mounted_stops ticked before started;
        later = later;
        signer = signer;
        after = after;
        ended = ended;
        broken = all.broken;
        one_at_most = all.one_at_most;
        steps = all.steps;
        legal_after = legal_after;
        extends = steps_extend first items last all.steps;
        counted = steps_counted first items last all.steps;
        recorded = λ was. steps_recorded first items last all.steps (subst (λ (s : SignerTold). IsRecorded s before.history) (sym signer) was);
        one_body = one_body;
        one_order = one_order;
        sound = sound;
        stands = stands;
        recorded_stops = recorded_stops;
        settled_after = λ same. steps_settled first items last all.steps settled
            (λ rose. same (rose_behind old.plant.disk.faults mounted.disk.faults new.plant.disk.faults later rose));
      })
