use Rattle.gate_engine.proofs.held.Held.start.Goals as goal

pub returns-in-Ok-clause-begins : goal.returns-in-Ok-clause-begins
returns-in-Ok-clause-begins g c = λ bytes is before sound kept. c.in-Ok.ensures.begins bytes is before sound kept.stands

pub returns-in-Err-clause-good : goal.returns-in-Err-clause-good
returns-in-Err-clause-good g c = λ bytes is. c.in-Err.ensures.good bytes is c.requires.kept.0 c.requires.kept.1 c.requires.kept.2.stands
