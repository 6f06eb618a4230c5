use Rattle.std.proofs.Common.{◌+◌, inr, refl, arith}
use Rattle.journal_core.specs.Journal.{HasRoom}
use Rattle.gate_machine.proofs.ending.fitted_send.Goals as goal

pub returns-then-not-has_room-clause-ends : goal.returns-then-not-has_room-clause-ends
returns-then-not-has_room-clause-ends c = inr (
  (λ fits.
      let room : HasRoom c.args.journal.now.at (c.group_total.result + c.group_total-2.result) =
      omega (arith, c.requires.place, c.entry_len.ensures, c.len.ensures, c.group_total.ensures, c.group_total-2.ensures, fits) in
      let fits_here = c.has_room.ensures.1 room in
      cc (fits_here, c.if-not-has_room.true)),
  refl,
)
