use Rattle.std.proofs.Common.{[], ◌∷◌, refl}
use Rattle.gate_machine.specs.Step.{Asked}
use Rattle.gate_machine.specs.Step.Item.{Exchange}
use Rattle.gate_engine.specs.Engine.{state_of}
use Rattle.gate_engine.proofs.engine.Engine.ask.Goals as goal

pub returns-clause-recorded : goal.returns-clause-recorded
returns-clause-recorded g c =
    let old = state_of c.args.self.now (g.P.Plant.told c.args.plant.now) (g.C.Clock.told c.args.clock.now) (g.E.Entropy.told c.args.entropy.now) in
    let new = state_of c.ask_once-said.new.self (g.P.Plant.told c.ask_once-said.new.plant) (g.C.Clock.told c.ask_once-said.new.clock) (g.E.Entropy.told c.ask_once-said.new.entropy) in
    let asked : Asked = record { caller = c.args.caller.now; command = c.args.command.now; reply = c.ask_once-said.result.reply } in
    c.what_steps_keep.ensures.recorded old (Exchange asked ∷ []) new (new, c.ask_once-said.ensures.step, refl)
