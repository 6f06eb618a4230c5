-- Which commands have a size that can be spelled.
use Rattle.std.specs.Prelude.{ℕ, ◌+◌, ◌<◌, ◌≤◌, ◌^◌, List, length, sum_by}
use Rattle.std.specs.List.{AllByRecursion}
use Rattle.gate_base.specs.declared.name.Address.TheVariants.{V4, V6}
use Rattle.gate_base.specs.declared.name.Target.{Target}
use Rattle.gate_base.specs.declared.name.Target.TheVariants.{Dns, Ip}
use Rattle.gate_base.specs.declared.seen.CaaSeen.{CaaSeen}
use Rattle.gate_base.specs.declared.seen.Seen.{Seen}
use Rattle.gate_entries.specs.declared.command.Command.{Command}
use Rattle.gate_entries.specs.declared.command.Command.TheVariants as commands
use Rattle.gate_entries.specs.Field.{list_bytes, AreItems}
use Rattle.gate_entries.specs.Target.{labels_text}
use Rattle.gate_entries.specs.Observation.{seen_bytes, IsSeen}
use Rattle.gate_entries.specs.CaaAnswer.{answer_bytes, IsAnswer}
use Rattle.gate_entries.specs.Blocked.{IsBlocked}
use Rattle.gate_entries.specs.Spelling.{most_bytes}

-- a name's text without `*.` is counted by one byte
abbrev pub TargetFits : Target → Type 0
TargetFits (Dns name) = length (labels_text name.labels) < 2 ^ 8
TargetFits (Ip address) = Unit {0}

pub record OrderFits (key : List ℕ) (targets : List Target) (request : List ℕ) : Type 0 where
  pub key_fits : length key < 2 ^ 8
  pub count : length targets < 2 ^ 8
  pub each : AllByRecursion TargetFits targets
  pub request_fits : length request < 2 ^ 16

pub record AnswersFit (key : List ℕ) (target : Target) (caa : CaaSeen) : Type 0 where
  pub key_fits : length key < 2 ^ 8
  pub target_fits : TargetFits target
  pub are_answers : AreItems IsAnswer caa.answers

-- each field fits its count
abbrev pub FieldsFit : Command → Type 0
FieldsFit (commands.Order key targets days common request) = OrderFits key targets request
FieldsFit (commands.Challenge key order target method) = (length key < 2 ^ 8) × TargetFits target
FieldsFit (commands.Observe key challenge moment seen) = (length key < 2 ^ 8) × IsSeen seen
FieldsFit (commands.ObserveCaa key order target moment caa) = AnswersFit key target caa
FieldsFit (commands.Finalize order) = Unit {0}
FieldsFit (commands.Block key spki) = IsBlocked key spki

-- how many bytes a target takes in an entry
abbrev pub target_length : Target → ℕ
target_length (Dns name) = 3 + length (labels_text name.labels)
target_length (Ip (V4 octets)) = 5
target_length (Ip (V6 octets)) = 17

-- a key, a challenge's number, a moment, and what was seen
abbrev pub observed_length : List ℕ → Seen → ℕ
observed_length key seen = (1 + length key) + 8 + 8 + length (seen_bytes seen)

-- a key, an order's number, a target, a moment, and the answers
abbrev pub answered_length : List ℕ → Target → CaaSeen → ℕ
answered_length key target caa = (1 + length key) + 8 + target_length target + 8 + length (list_bytes answer_bytes caa.answers)

-- how many bytes the fields take that the command gives its entry
abbrev pub given_length : Command → ℕ
given_length (commands.Order key targets days common request) =
    (1 + length key) + 1 + 2 + (1 + sum_by target_length targets) + (2 + length request)
given_length (commands.Challenge key order target method) = (1 + length key) + 8 + 1 + target_length target
given_length (commands.Observe key challenge moment seen) = observed_length key seen
given_length (commands.ObserveCaa key order target moment caa) = answered_length key target caa
given_length (commands.Finalize order) = 8
given_length (commands.Block key spki) = (1 + length key) + (2 + length spki)

-- each field fits its count, and the entry fits with its kind, number and moment and with a caller of 64 bytes
pub record Fits (command : Command) : Type 0 where
  pub fields : FieldsFit command
  pub size : 17 + (2 + 64) + given_length command ≤ most_bytes
