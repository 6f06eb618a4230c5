use Rattle.std.proofs.Common.{ap, subst}
use Rattle.gate_machine.specs.Move.{Held}
use Rattle.gate_engine.specs.Gate.{Gate, Wrote}
use Rattle.gate_engine.proofs.held.Held.ask.Goals as goal

pub returns-clause-wrote : goal.returns-clause-wrote
returns-clause-wrote g c =
    subst (λ (held : Held). Wrote held c.args.caller.now c.args.command.now c.ask_once.result.reply c.ask_once.new.self c.ask_once.result.wrote)
    (ap (λ (gate : Gate _ _ _). gate.held) c.self.view_is) c.ask_once.ensures.wrote
