-- Which command of which caller a message is, or the first fault that it has.
use Rattle.std.specs.Prelude.{◌≡◌, ℕ, List, Option, Some, None, Ok, Err}
use Rattle.std.specs.List.{AllByRecursion}
use Rattle.serde_json.specs.Data.{Data}
use Rattle.http_frames.specs.declared.message.Message.{Message}
use Rattle.gate_settings.specs.declared.row.CallerRow.{CallerRow}
use Rattle.gate_settings.specs.Callers.{with_token}
use Rattle.gate_entries.specs.declared.caller.Caller.{Caller}
use Rattle.gate_entries.specs.declared.command.Command.{Command}
use Rattle.gate_entries.specs.declared.command.Command.TheVariants as commands
use Rattle.gate_entries.specs.Command.{IsCaller}
use Rattle.gate_entries.specs.Fits.{Fits}
use Rattle.wire_decode.specs.declared.decoding.Decoded.{Decoded}
use Rattle.wire_decode.specs.declared.decoding.Decoded.TheVariants as decoded
use Rattle.wire_decode.specs.declared.fault.WireFault.TheVariants as faults
use Rattle.wire_decode.specs.declared.route.Route.{Route}
use Rattle.wire_decode.specs.declared.route.Route.TheVariants.{Orders, Challenges, Finalize, Observations, Caa, Blocks}
use Rattle.wire_decode.specs.declared.rule.Rule.{Rule}
use Rattle.wire_decode.specs.declared.rule.Rule.TheVariants.{W06}
use Rattle.wire_decode.specs.Judgement.{Judgement, rule_number, ◌>>=◌}
use Rattle.wire_decode.specs.Bodies.{order_in, challenge_in, block_in, observation_in, caa_in}
use Rattle.wire_decode.specs.Routes.{IsRouteOf, HasRoute}
use Rattle.wire_decode.specs.Words.{json_of}

-- ---- callers

-- the row with the token of the message
abbrev pub row_of : Option (List ℕ) → List CallerRow → Option CallerRow
row_of None rows = None
row_of (Some token) rows = with_token token rows

abbrev pub caller_from : CallerRow → Caller
caller_from row = record { id = row.id; role = row.role }

abbrev pub HasId : CallerRow → Type 0
HasId row = IsCaller (caller_from row)

abbrev pub HaveIds : List CallerRow → Type 0
HaveIds rows = AllByRecursion HasId rows

-- ---- bodies

-- what the members of a body say by its route
abbrev pub members_in : Route → Data → Judgement Command
members_in Orders d = order_in d
members_in (Challenges order) d = challenge_in order d
members_in (Finalize order) d = Ok (commands.Finalize order)
members_in Observations d = observation_in d
members_in Caa d = caa_in d
members_in Blocks d = block_in d

-- a body that is sent to a route without one is not judged
abbrev pub command_in : Route → List ℕ → Judgement Command
command_in Orders body = json_of body >>= members_in Orders
command_in (Challenges order) body = json_of body >>= members_in (Challenges order)
command_in (Finalize order) body = Ok (commands.Finalize order)
command_in Observations body = json_of body >>= members_in Observations
command_in Caa body = json_of body >>= members_in Caa
command_in Blocks body = json_of body >>= members_in Blocks

-- the command has the sizes that an entry can spell; that one doesn't is the last rule
abbrev pub Fitted : Judgement Command → Judgement Command → Type 0
Fitted (Ok command) (Ok told) = (told ≡ command) × Fits command
Fitted (Ok command) (Err rule) = (rule ≡ W06) × ¬ (Fits command)
Fitted (Err broken) told = told ≡ Err broken

-- ---- messages

-- the message's route and its caller's row
pub record IsFrom (message : Message) (rows : List CallerRow) (route : Route) (row : CallerRow) : Type 0 where
  pub routed : IsRouteOf message.method message.path route
  pub called : row_of message.token rows ≡ Some row

pub record Asks (message : Message) (rows : List CallerRow) (caller : Caller) (command : Command) : Type 0 where
  pub route : Route
  pub row : CallerRow
  pub is : IsFrom message rows route row
  pub by : caller ≡ caller_from row
  pub says : Fitted (command_in route message.body) (Ok command)

-- the body breaks the rule with this number, and none before it
pub record HasBadForm (message : Message) (rows : List CallerRow) (code : ℕ) : Type 0 where
  pub route : Route
  pub row : CallerRow
  pub is : IsFrom message rows route row
  pub rule : Rule
  pub number : code ≡ rule_number rule
  pub breaks : Fitted (command_in route message.body) (Err rule)

-- the route is judged first, then the caller, and then the body
abbrev pub Decodes : Message → List CallerRow → Decoded → Type 0
Decodes message rows (decoded.Ask caller command) = Asks message rows caller command
Decodes message rows (decoded.Fault faults.NotFound) = ¬ (HasRoute message.method message.path)
Decodes message rows (decoded.Fault faults.NoCaller) = HasRoute message.method message.path × (row_of message.token rows ≡ None)
Decodes message rows (decoded.Fault (faults.BadForm code)) = HasBadForm message rows code
Decodes message rows (decoded.Fault faults.TooLarge) = ⊥
Decodes message rows (decoded.Fault faults.NotOffered) = ⊥
Decodes message rows decoded.NoMemory = Unit {0}

abbrev pub IfAsk : (Caller → Command → Type 0) → Decoded → Type 0
IfAsk Holds (decoded.Ask caller command) = Holds caller command
IfAsk Holds (decoded.Fault fault) = Unit {0}
IfAsk Holds decoded.NoMemory = Unit {0}
