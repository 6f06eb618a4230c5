use Rattle.std.proofs.Common.{[], Some, refl, sym, subst}
use Rattle.gate_base.specs.declared.sixteen.Sixteen.{Sixteen}
use Rattle.gate_machine.specs.declared.answer.Answer.{Answer}
use Rattle.gate_machine.specs.Answer.{MayBe}
use Rattle.gate_engine.specs.Engine.{CarriesOut}
use Rattle.gate_engine.proofs.Steps.{carries_said}
use Rattle.gate_engine.proofs.engine.Engine.carry_out.Goals as goal

some_draw : Sixteen
some_draw = record { 0 = [] }

pub unreachable-requires : goal.unreachable-requires
unreachable-requires g c =
    let wrong = subst (λ (a : Answer). MayBe (Some some_draw) a) c.in-NeedDraw.is (c.requires.may some_draw) in
    cc wrong

pub returns-in-Say : goal.returns-in-Say
returns-in-Say g c =
    let told = g.P.Plant.told c.args.plant.now in
    let stops = g.P.Plant.stops c.args.plant.now in
    let other = subst (λ (a : Answer). MayBe (Some some_draw) a) c.in-Say.is (c.requires.may some_draw) in
    record {
      carries = subst (λ (a : Answer). CarriesOut a c.args.self.now.history told told stops stops c.in-Say.reply c.args.self.now) (sym c.in-Say.is)
          (carries_said c.in-Say.reply c.args.self.now.history told stops c.args.self.now other (refl, c.requires.settled) c.requires.stands
          (c.runs_join.ensures.still c.args.plant.now));
    }
