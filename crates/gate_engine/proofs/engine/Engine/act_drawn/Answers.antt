use Rattle.gate_engine.proofs.Steps.{acts_drawn}
use Rattle.gate_engine.proofs.engine.Engine.act_drawn.Goals as goal

pub returns-in-Ok-answer : goal.returns-in-Ok-answer
returns-in-Ok-answer g c = record {
  acts = acts_drawn c.args.self.now.history c.args.caller.now c.args.command.now c.args.reading (g.P.Plant.told c.args.plant.now) (g.P.Plant.told c.carry_out.new.plant)
      (g.P.Plant.stops c.args.plant.now) (g.P.Plant.stops c.carry_out.new.plant)
      (g.E.Entropy.told c.args.entropy.now) (g.E.Entropy.told c.draw16.new.self) c.carry_out.result c.carry_out.new.self c.in-Ok.draw c.in-Ok-answer.answer
      c.requires.needs c.in-Ok.ensures c.in-Ok-answer.ensures.answers c.in-Ok-answer.ensures.ready c.carry_out.ensures.carries;
}
