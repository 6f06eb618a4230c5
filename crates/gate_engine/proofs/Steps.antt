-- What the parts of an answer make of a step.
use Rattle.std.proofs.Common.{◌≡◌, ◌≢◌, ℕ, ◌≤◌, inl, inr, List, [], ◌∷◌, ◌++◌, Option, Some, None, true, false, refl, subst, sym, ap, ◌∙◌, arith}
use Rattle.plant.specs.Causes.{Rose}
use Rattle.plant.specs.Plant.{SignerTold, PlantTold}
use Rattle.plant.specs.Clock.{ClockTold, Reads}
use Rattle.plant.specs.Entropy.{EntropyTold, Draws}
use Rattle.gate_base.specs.declared.sixteen.Sixteen.{Sixteen}
use Rattle.gate_entries.specs.declared.caller.Caller.{Caller}
use Rattle.gate_entries.specs.declared.command.Command.{Command}
use Rattle.gate_entries.specs.declared.entry.Entry.{Entry}
use Rattle.gate_entries.specs.declared.reply.Reply.{Reply}
use Rattle.gate_entries.specs.declared.reply.Reply.TheVariants.{RoleDenied, ClockFault, EntropyFault, DiskFault, SignerFault, NoMemory}
use Rattle.gate_entries.specs.Command.{may_ask}
use Rattle.gate_machine.specs.declared.answer.Answer.{Answer}
use Rattle.gate_machine.specs.declared.answer.Answer.TheVariants.{Say, Write, Send, NeedDraw}
use Rattle.gate_machine.specs.Answer.{Answers, IsReady, MayBe, reply_of}
use Rattle.gate_machine.specs.Move.{Held, Holds, Waits, nothing, no_reading, Settles, EndsRemount, RemountFails}
use Rattle.gate_machine.specs.Step.{Outside, Gives, Step}
use Rattle.plant.specs.Stops.{Stops}
use Rattle.plant.specs.Joining.{Stays}
use Rattle.gate_engine.specs.Engine.{Leaves, CarriesOut, ActsBy, AsksBy, GoesBy, outside_of, state_of}
use Rattle.gate_engine.specs.Kept.{Stands, IsSentOf, Keeps}
use Rattle.gate_engine.proofs.Kept.{between_still, sent_still}

-- the plant is left alone, and nothing is added
pub keeps_same : (history : List Entry) (told : PlantTold) (stops : Stops) (new : Held) → Holds new history → Stands new stops → Stays stops stops
    → Keeps (IsSentOf history stops) history told told stops stops new
keeps_same history told stops new held stands still = record {
  stands = stands;
  recorded = sent_still history new stops held;
  since = between_still history new stops held stands still;
  later = omega arith;
}

-- a call that leaves the plant alone, and tells no fault of the disk
leaves_same : (history : List Entry) (told : PlantTold) (stops : Stops) (reply : Reply) (new : Held) → reply ≢ DiskFault → Holds new history → Stands new stops
    → Stays stops stops → Leaves history told told stops stops reply new
leaves_same history told stops reply new other held stands still =
    record { keeps = keeps_same history told stops new held stands still; cause = λ is. absurd (other is) }

memory_other : NoMemory ≢ DiskFault
memory_other is = cc is

entropy_other : EntropyFault ≢ DiskFault
entropy_other is = cc is

clock_other : ClockFault ≢ DiskFault
clock_other is = cc is

pub signer_other : SignerFault ≢ DiskFault
signer_other is = cc is

role_other : RoleDenied ≢ DiskFault
role_other is = cc is

-- a reply is said
pub carries_said : (said : Reply) (history : List Entry) (told : PlantTold) (stops : Stops) (new : Held) → said ≢ DiskFault → Holds new history → Stands new stops
    → Stays stops stops → CarriesOut (Say said) history told told stops stops said new
carries_said said history told stops new other held stands still =
    record { call = None; gives = refl; does = inr (refl, held, refl); leaves = leaves_same history told stops said new other held stands still }

-- there was no memory
pub carries_memory : (answer : Answer) (history : List Entry) (told : PlantTold) (stops : Stops) (new : Held) → Holds new history → Stands new stops → Stays stops stops
    → CarriesOut answer history told told stops stops NoMemory new
carries_memory answer history told stops new held stands still = record {
  call = None;
  gives = refl;
  does = inl (record { told = refl; uncalled = refl; held = held });
  leaves = leaves_same history told stops NoMemory new memory_other held stands still;
}

-- an entry is committed, or the disk failed
module _ (history : List Entry) (entry : Entry) (told told' : PlantTold) (stops stops' : Stops) (new : Held) (same : told'.signer ≡ told.signer)
    (keeps : Keeps (IsSentOf history stops) history told told' stops stops' new) where
  pub carries_written : (reply : Reply) → reply ≡ reply_of entry → reply ≢ DiskFault → Holds new (history ++ entry ∷ [])
      → CarriesOut (Write entry) history told told' stops stops' reply new
  carries_written reply is other held = record {
    call = None;
    gives = same;
    does = inr (inl (is, held), refl);
    leaves = record { keeps = keeps; cause = λ fault. absurd (other fault) };
  }

  pub carries_unadded : Holds new history → CarriesOut (Write entry) history told told' stops stops' NoMemory new
  carries_unadded held = record {
    call = None;
    gives = same;
    does = inl (record { told = refl; uncalled = refl; held = held });
    leaves = record { keeps = keeps; cause = λ is. absurd (memory_other is) };
  }

  pub carries_lost : Waits history entry new → Rose told.disk.faults told'.disk.faults → CarriesOut (Write entry) history told told' stops stops' DiskFault new
  carries_lost waits rose = record {
    call = None;
    gives = same;
    does = inr (inr (refl, waits), refl);
    leaves = record { keeps = keeps; cause = λ is. rose };
  }

undrawn_fine : (draw : Option (Option Sixteen)) → draw ≡ None → draw ≢ Some None
undrawn_fine draw is failed = let wrong = sym is ∙ failed in cc wrong

drawn_fine : (draw : Option (Option Sixteen)) (bytes : Sixteen) → draw ≡ Some (Some bytes) → draw ≢ Some None
drawn_fine draw bytes is failed = let wrong = sym is ∙ failed in cc wrong

module _ (history : List Entry) (caller : Caller) (command : Command) (reading : ℕ) (told told' : PlantTold) (stops stops' : Stops) (entropy entropy' : EntropyTold) (reply : Reply) (new : Held) where
  -- an answer was carried out without drawn bytes
  pub acts_undrawn : (answer : Answer) → Answers history caller command reading None answer → IsReady history answer
      → CarriesOut answer history told told' stops stops' reply new → ActsBy history caller command reading told told' stops stops' entropy entropy reply new
  acts_undrawn answer answers ready done = record {
    draw = None;
    call = done.call;
    draws = refl;
    gives = done.gives;
    acts = elim done.does [
      | inl memory ↦ inl (record { told = memory.told; drawn = undrawn_fine None refl; uncalled = memory.uncalled; held = memory.held })
      | inr does ↦ inr (inr (record { drawn = None; draws = refl; needs = tt; answer = answer; answers = answers; ready = ready; does = does }))
    ];
    leaves = done.leaves;
  }

  -- an answer was carried out with drawn bytes
  pub acts_drawn : (draw : Sixteen) (answer : Answer) → Answers history caller command reading None NeedDraw → Draws entropy entropy' (Some draw)
      → Answers history caller command reading (Some draw) answer → IsReady history answer
      → CarriesOut answer history told told' stops stops' reply new → ActsBy history caller command reading told told' stops stops' entropy entropy' reply new
  acts_drawn draw answer needs draws answers ready done = record {
    draw = Some (Some draw);
    call = done.call;
    draws = draws;
    gives = done.gives;
    acts = elim done.does [
      | inl memory ↦ inl (record { told = memory.told; drawn = drawn_fine (Some (Some draw)) draw refl; uncalled = memory.uncalled; held = memory.held })
      | inr does ↦ inr (inr (record { drawn = Some draw; draws = refl; needs = needs; answer = answer; answers = answers; ready = ready; does = does }))
    ];
    leaves = done.leaves;
  }

module _ (history : List Entry) (caller : Caller) (command : Command) (reading : ℕ) (told : PlantTold) (stops : Stops) (entropy entropy' : EntropyTold) (new : Held)
    (still : Stays stops stops) where
  pub acts_memory : Holds new history → Stands new stops → ActsBy history caller command reading told told stops stops entropy entropy NoMemory new
  acts_memory held stands = record {
    draw = None;
    call = None;
    draws = refl;
    gives = refl;
    acts = inl (record { told = refl; drawn = undrawn_fine None refl; uncalled = refl; held = held });
    leaves = leaves_same history told stops NoMemory new memory_other held stands still;
  }

  pub acts_drawn_memory : (draw : Sixteen) → Draws entropy entropy' (Some draw) → Holds new history → Stands new stops
      → ActsBy history caller command reading told told stops stops entropy entropy' NoMemory new
  acts_drawn_memory draw draws held stands = record {
    draw = Some (Some draw);
    call = None;
    draws = draws;
    gives = refl;
    acts = inl (record { told = refl; drawn = drawn_fine (Some (Some draw)) draw refl; uncalled = refl; held = held });
    leaves = leaves_same history told stops NoMemory new memory_other held stands still;
  }

  pub acts_no_draw : Answers history caller command reading None NeedDraw → Draws entropy entropy' None → Holds new history → Stands new stops
      → ActsBy history caller command reading told told stops stops entropy entropy' EntropyFault new
  acts_no_draw needs draws held stands = record {
    draw = Some None;
    call = None;
    draws = draws;
    gives = refl;
    acts = inr (inl (record { needs = needs; failed = refl; fault = refl; uncalled = refl; held = held }));
    leaves = leaves_same history told stops EntropyFault new entropy_other held stands still;
  }

pub asks_read : (history : List Entry) (told told' : PlantTold) (stops stops' : Stops) (clock clock' : ClockTold) (entropy entropy' : EntropyTold) (caller : Caller) (command : Command) (reading : ℕ)
    (reply : Reply) (new : Held) → Reads clock clock' (Some reading) → ActsBy history caller command reading told told' stops stops' entropy entropy' reply new
    → AsksBy history caller command told told' stops stops' (outside_of told clock entropy) (outside_of told' clock' entropy') reply new
asks_read history told told' stops stops' clock clock' entropy entropy' caller command reading reply new reads acts = record {
  given = record { reading = Some (Some reading); draw = acts.draw; call = acts.call };
  gives = record { reading = reads; draw = acts.draws; call = acts.gives };
  asks = inr (record { reading = reading; reads = refl; acts = acts.acts });
  leaves = acts.leaves;
}

pub asks_unread : (history : List Entry) (told : PlantTold) (stops : Stops) (clock clock' : ClockTold) (entropy : EntropyTold) (caller : Caller) (command : Command) (new : Held)
    → Reads clock clock' None → Holds new history → Stands new stops → Stays stops stops
    → AsksBy history caller command told told stops stops (outside_of told clock entropy) (outside_of told clock' entropy) ClockFault new
asks_unread history told stops clock clock' entropy caller command new reads held stands still = record {
  given = no_reading;
  gives = record { reading = reads; draw = refl; call = refl };
  asks = inl (record { gave = refl; fault = refl; held = held });
  leaves = leaves_same history told stops ClockFault new clock_other held stands still;
}

pub goes_denied : (history : List Entry) (told : PlantTold) (stops : Stops) (outside : Outside) (caller : Caller) (command : Command) (new : Held)
    → may_ask caller.role command ≡ false → Holds new history → Stands new stops → Stays stops stops
    → GoesBy history caller command told told stops stops outside outside RoleDenied new
goes_denied history told stops outside caller command new denied held stands still = record {
  given = nothing;
  gives = record { reading = refl; draw = refl; call = refl };
  goes = inl (record { denied = denied; gave = refl; told = refl; held = held });
  leaves = leaves_same history told stops RoleDenied new role_other held stands still;
}

pub goes_allowed : (history : List Entry) (told told' : PlantTold) (stops stops' : Stops) (old now : Outside) (caller : Caller) (command : Command) (reply : Reply) (new : Held)
    → may_ask caller.role command ≡ true → AsksBy history caller command told told' stops stops' old now reply new
    → GoesBy history caller command told told' stops stops' old now reply new
goes_allowed history told told' stops stops' old now caller command reply new may asks =
    record { given = asks.given; gives = asks.gives; goes = inr (may, asks.asks); leaves = asks.leaves }

leaves_outside : (told told' : PlantTold) (clock : ClockTold) (entropy : EntropyTold) → told'.signer ≡ told.signer → outside_of told' clock entropy ≡ outside_of told clock entropy
leaves_outside told told' clock entropy same = ap (λ (s : SignerTold). record { clock = clock; entropy = entropy; signer = s }) same

remount_of : (old : Held) (loose : Option Entry) → old.loose ≡ loose → old.loose ≢ None → (reply : Reply) (new : Held) → EndsRemount reply → new ≡ old
    → RemountFails old nothing reply new
remount_of old None is some reply new ends held = absurd (some is)
remount_of old (Some entry) is some reply new ends held = record { entry = entry; was_loose = is; gave = refl; ends = ends; held = held }

pub step_nowhere : (old : Held) (told told' : PlantTold) (clock : ClockTold) (entropy : EntropyTold) (caller : Caller) (command : Command) (reply : Reply) (new : Held)
    → told'.signer ≡ told.signer → old.loose ≢ None → EndsRemount reply → new ≡ old → told.disk.faults ≤ told'.disk.faults
    → (reply ≡ DiskFault → Rose told.disk.faults told'.disk.faults)
    → Step (state_of old told clock entropy) caller command reply (state_of new told' clock entropy)
step_nowhere old told told' clock entropy caller command reply new same some ends held later cause = record {
  given = nothing;
  moves = inl (remount_of old old.loose refl some reply new ends held);
  gives = record { reading = refl; draw = refl; call = same };
  later = later;
  cause = cause;
}

pub step_settled : (old mid : Held) (told told' told'' : PlantTold) (stops stops' : Stops) (clock clock' : ClockTold) (entropy entropy' : EntropyTold) (caller : Caller) (command : Command)
    (reply : Reply) (new : Held) → Settles old mid.history → told'.signer ≡ told.signer → told.disk.faults ≤ told'.disk.faults
    → GoesBy mid.history caller command told' told'' stops stops' (outside_of told' clock entropy) (outside_of told'' clock' entropy') reply new
    → Step (state_of old told clock entropy) caller command reply (state_of new told'' clock' entropy')
step_settled old mid told told' told'' stops stops' clock clock' entropy entropy' caller command reply new settles same later goes = record {
  given = goes.given;
  moves = inr (record { history = mid.history; settles = settles; goes = goes.goes });
  gives = subst (λ (o : Outside). Gives o goes.given (outside_of told'' clock' entropy')) (leaves_outside told told' clock entropy same) goes.gives;
  later = omega (arith, later, goes.leaves.keeps.later);
  cause = λ is. let rose = goes.leaves.cause is in omega (arith, later, rose);
}

-- an answer that needs no bytes, and one that was given some, may be any
pub may_none : (answer : Answer) → answer ≢ NeedDraw → MayBe None answer → (draw : Sixteen) → MayBe (Some draw) answer
may_none (Say reply) other may draw = may
may_none (Write entry) other may draw = tt
may_none (Send entry) other may draw = tt
may_none NeedDraw other may draw = absurd (other refl)

pub may_some : (given : Sixteen) (answer : Answer) → MayBe (Some given) answer → (draw : Sixteen) → MayBe (Some draw) answer
may_some given (Say reply) may draw = may
may_some given (Write entry) may draw = tt
may_some given (Send entry) may draw = tt
may_some given NeedDraw may draw = absurd (cc may)
