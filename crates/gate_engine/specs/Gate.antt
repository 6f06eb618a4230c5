-- An engine together with what it stands over.
use Rattle.std.specs.Prelude.{◌≡◌, ℕ, ◌+◌, ◌⊎◌, length}
use Rattle.gate_entries.specs.declared.caller.Caller.{Caller}
use Rattle.gate_entries.specs.declared.command.Command.{Command}
use Rattle.gate_entries.specs.declared.reply.Reply.{Reply}
use Rattle.gate_machine.specs.Move.{Held, Given, RemountFails, Settled}

pub record Gate (P C E : Type 0) : Type 0 where
  pub held : Held
  pub plant : P
  pub clock : C
  pub entropy : E

-- a reply, and how many entries its call added at the end of the history
pub record Answered : Type 0 where
  pub reply : Reply
  pub wrote : ℕ

-- the disk could not be mounted and nothing came behind the history; or so many entries did, once nothing was loose
abbrev pub Wrote : Held → Caller → Command → Reply → Held → ℕ → Type 0
Wrote old caller command reply new wrote =
    ((given : Given) × RemountFails old given reply new × (wrote ≡ 0))
    ⊎ ((given : Given) × (settled : Settled old caller command given reply new) × (length new.history ≡ length settled.history + wrote))
