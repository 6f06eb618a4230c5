use Rattle.std.proofs.Common.{[]}
use Rattle.gate_machine.proofs.InForce.{begins, each_sound}
use Rattle.gate_machine.proofs.law.settings_come_into_force.Goals as goal

pub returns-clause-first : goal.returns-clause-first
returns-clause-first c = begins

pub returns-clause-last : goal.returns-clause-last
returns-clause-last c = λ history legal. c.some_settings_are_in_force.ensures.some history (each_sound [] history legal.each) (begins history legal)

pub returns-clause-sound : goal.returns-clause-sound
returns-clause-sound c = each_sound []
