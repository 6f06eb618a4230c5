use Rattle.std.proofs.Common.{sym}
use Rattle.der_text.specs.Front.{front}
use Rattle.der_text.proofs.Paths.{part_inside, no_part_inside, no_part_unread}
use Rattle.der_text.proofs.part.part_of_element.Goals as goal
use Rattle.der_text.proofs.part.part_of_element.Goals.{in_default-via-in-Ok+else-has_constructed_bit, in_default-via-in_default}

pub returns-in-Ok : goal.returns-in-Ok
returns-in-Ok c = part_inside 31 c.args.i _ (front c.in-Ok.front) _ c.in-Ok.ensures.found (sym c.if-has_constructed_bit.ensures) c.element_at.ensures

pub returns-in_default : goal.returns-in_default
returns-in_default c = elim c.in_default.branch [
  | in_default-via-in-Ok+else-has_constructed_bit w ↦ no_part_inside 31 c.args.i _ (front w.in-Ok.front) w.in-Ok.ensures.found (sym w.if-has_constructed_bit.ensures)
  | in_default-via-in_default w ↦ no_part_unread 31 c.args.i _ w.in_default.field-0 w.in_default.ensures.fault
]
