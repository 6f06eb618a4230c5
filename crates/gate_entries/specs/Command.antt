-- Commands and the entries that they write.
use Rattle.std.specs.Prelude.{ℕ, ◌+◌, ◌<◌, ◌≤◌, ◌^◌, List, [], length, Bool, true, false, Option, Some, None, option_map}
use Rattle.std.specs.List.{AllByRecursion}
use Rattle.gate_base.specs.declared.moment.Moment.{Moment}
use Rattle.gate_base.specs.declared.name.Target.{Target}
use Rattle.gate_base.specs.declared.seen.CaaSeen.{CaaSeen}
use Rattle.gate_base.specs.declared.seen.Seen.{Seen}
use Rattle.gate_base.specs.declared.profile.Role.{Role}
use Rattle.gate_base.specs.declared.profile.Role.TheVariants as roles
use Rattle.gate_entries.specs.declared.caller.Caller.{Caller}
use Rattle.gate_entries.specs.declared.command.Command.{Command}
use Rattle.gate_entries.specs.declared.command.Command.TheVariants as commands
use Rattle.gate_entries.specs.declared.entry.Entry.{Entry}
use Rattle.gate_entries.specs.declared.entry.What.{What}
use Rattle.gate_entries.specs.declared.entry.What.TheVariants as whats
use Rattle.gate_entries.specs.Field.{AreItems}
use Rattle.gate_entries.specs.Target.{IsTarget, AreTargets}
use Rattle.gate_entries.specs.Observation.{IsSeen}
use Rattle.gate_entries.specs.CaaAnswer.{IsAnswer}
use Rattle.gate_entries.specs.Blocked.{IsBlocked}
use Rattle.gate_entries.specs.Spelling.{most_bytes}
use Rattle.gate_entries.specs.Fits.{observed_length, answered_length}

-- the retry key under which a caller's entry stands
abbrev pub key_of : What → Option (List ℕ)
key_of (whats.Order key common days targets request) = Some key
key_of (whats.Challenge key order method target value thumb) = Some key
key_of (whats.Observation key challenge moment seen) = Some key
key_of (whats.CaaAnswer key order target moment answers) = Some key
key_of (whats.Blocked key spki) = Some key
key_of (whats.Settings bytes) = None
key_of (whats.Send order body) = None
key_of (whats.Signed order signature) = None

-- what a command's entry says, where the command says all of it; a challenge and what is sent for an order say more
abbrev pub what_of : Command → Option What
what_of (commands.Order key targets days common request) = Some (whats.Order key common days targets request)
what_of (commands.Challenge key order target method) = None
what_of (commands.Observe key challenge moment seen) = Some (whats.Observation key challenge moment seen)
what_of (commands.ObserveCaa key order target moment caa) = Some (whats.CaaAnswer key order target moment caa)
what_of (commands.Block key spki) = Some (whats.Blocked key spki)
what_of (commands.Finalize order) = None

abbrev pub entry_with : ℕ → Moment → List ℕ → What → Entry
entry_with number moment caller what = record { number = number; moment = moment; caller = caller; what = what }

-- the entry that a command writes
abbrev pub entry_for : ℕ → Moment → Caller → Command → Option Entry
entry_for number moment caller command = option_map (entry_with number moment caller.id) (what_of command)

-- the entry of settings, which are nobody's
abbrev pub settings_entry : ℕ → Moment → List ℕ → Entry
settings_entry number moment bytes = entry_with number moment [] (whats.Settings bytes)

-- the fields have a spelling, and so has the entry that the command writes
pub record IsAskedOrder (key : List ℕ) (targets : List Target) (request : List ℕ) : Type 0 where
  pub key_fits : length key < 2 ^ 8
  pub are_targets : AreTargets targets
  pub request_fits : length request < 2 ^ 16

pub record IsAskedObservation (key : List ℕ) (seen : Seen) : Type 0 where
  pub key_fits : length key < 2 ^ 8
  pub is_seen : IsSeen seen
  pub size : 17 + (2 + 64) + observed_length key seen ≤ most_bytes

pub record AreAskedAnswers (key : List ℕ) (target : Target) (caa : CaaSeen) : Type 0 where
  pub key_fits : length key < 2 ^ 8
  pub is_target : IsTarget target
  pub are_answers : AreItems IsAnswer caa.answers
  pub size : 17 + (2 + 64) + answered_length key target caa ≤ most_bytes

abbrev pub IsCommand : Command → Type 0
IsCommand (commands.Order key targets days common request) = IsAskedOrder key targets request
IsCommand (commands.Challenge key order target method) = (length key < 2 ^ 8) × IsTarget target
IsCommand (commands.Observe key challenge moment seen) = IsAskedObservation key seen
IsCommand (commands.ObserveCaa key order target moment caa) = AreAskedAnswers key target caa
IsCommand (commands.Finalize order) = Unit {0}
IsCommand (commands.Block key spki) = IsBlocked key spki

-- each target of the command has a spelling
abbrev pub HasNames : Command → Type 0
HasNames (commands.Order key targets days common request) = AllByRecursion IsTarget targets
HasNames (commands.Challenge key order target method) = IsTarget target
HasNames (commands.Observe key challenge moment seen) = Unit {0}
HasNames (commands.ObserveCaa key order target moment caa) = IsTarget target
HasNames (commands.Finalize order) = Unit {0}
HasNames (commands.Block key spki) = Unit {0}

-- a caller's id has at most 64 bytes
abbrev pub IsCaller : Caller → Type 0
IsCaller caller = length caller.id ≤ 64

-- which commands a role has
abbrev pub may_ask : Role → Command → Bool
may_ask roles.Account (commands.Order key targets days common request) = true
may_ask roles.Account (commands.Challenge key order target method) = true
may_ask roles.Account (commands.Finalize order) = true
may_ask roles.Perspective (commands.Observe key challenge moment seen) = true
may_ask roles.Perspective (commands.ObserveCaa key order target moment caa) = true
may_ask roles.Operator (commands.Block key spki) = true
may_ask role command = false
