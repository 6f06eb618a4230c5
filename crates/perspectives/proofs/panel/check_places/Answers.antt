use Rattle.perspectives.specs.Panel.{is_placed}
use Rattle.perspectives.proofs.Found.{position_none}
use Rattle.perspectives.proofs.panel.check_places.Goals as goal

pub returns-in-None-clause-places : goal.returns-in-None-clause-places
returns-in-None-clause-places c = position_none is_placed _ c.in_default.ensures

pub returns-in-Some-first_conflict-clause-err : goal.returns-in-Some-first_conflict-clause-err
returns-in-Some-first_conflict-clause-err c = (
  c.requires.few,
  c.requires.primary,
  c.requires.names,
  position_none is_placed _ c.in_default.ensures,
  c.in-Some-first_conflict.ensures.found,
)
