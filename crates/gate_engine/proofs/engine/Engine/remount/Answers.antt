use Rattle.std.proofs.Common.{refl, sym, subst}
use Rattle.gate_machine.specs.Move.{Held}
use Rattle.gate_machine.specs.Sends.{Within}
use Rattle.gate_machine.specs.Step.{bodies_of}
use Rattle.gate_engine.specs.Engine.{IsOutside}
use Rattle.gate_engine.proofs.Kept.{stands_stays}
use Rattle.gate_engine.proofs.Recovery.{untold, not_other}
use Rattle.gate_engine.proofs.engine.Engine.remount.Goals as goal

pub returns-then-not-may_become-clause-good : goal.returns-then-not-may_become-clause-good
returns-then-not-may_become-clause-good g c = λ at is.
    untold (g.P.Plant.told c.args.plant.now).disk.bytes (λ bytes told.
    not_other c.args.self.now c.in-Ok.found.history (c.in-Ok.ensures.found bytes told c.args.self.now c.keeps_a_legal_history.ensures.sound c.requires.stands)
    (c.if-not-may_become.ensures.other refl))

pub returns-then-not-may_become-clause-stands : goal.returns-then-not-may_become-clause-stands
returns-then-not-may_become-clause-stands g c =
    stands_stays c.args.self.now (g.P.Plant.stops c.args.plant.now) (g.P.Plant.stops c.open.new.plant) c.requires.stands c.in-Ok.ensures.stays

pub returns-else-not-may_become-clause-kept : goal.returns-else-not-may_become-clause-kept
returns-else-not-may_become-clause-kept g c = λ recorded image sent left.
    subst (λ (held : Held). Within sent (bodies_of held.history)) (sym c.found.view_is)
    (c.in-Ok.ensures.kept c.args.self.now c.keeps_a_legal_history.ensures.sound (record { stands = c.requires.stands; recorded = recorded }) image sent left)

pub returns-in-Err-Disk-clause-stands : goal.returns-in-Err-Disk-clause-stands
returns-in-Err-Disk-clause-stands g c =
    stands_stays c.args.self.now (g.P.Plant.stops c.args.plant.now) (g.P.Plant.stops c.open.new.plant) c.requires.stands c.in-Err-Disk.ensures.stays

pub returns-in-Err-NotBegun-clause-good : goal.returns-in-Err-NotBegun-clause-good
returns-in-Err-NotBegun-clause-good g c = λ at is.
    untold (g.P.Plant.told c.args.plant.now).disk.bytes (λ bytes told.
    subst IsOutside c.in-Err-NotBegun.field-0-is
    (c.in-Err-NotBegun.ensures.good bytes told c.args.self.now c.keeps_a_legal_history.ensures.sound c.requires.stands))

pub returns-in-Err-JournalBad-clause-good : goal.returns-in-Err-JournalBad-clause-good
returns-in-Err-JournalBad-clause-good g c = λ at is.
    untold (g.P.Plant.told c.args.plant.now).disk.bytes (λ bytes told.
    subst IsOutside c.in-Err-JournalBad.field-0-is
    (c.in-Err-JournalBad.ensures.good bytes told c.args.self.now c.keeps_a_legal_history.ensures.sound c.requires.stands))

pub returns-in-Err-JournalBad-clause-stands : goal.returns-in-Err-JournalBad-clause-stands
returns-in-Err-JournalBad-clause-stands g c =
    stands_stays c.args.self.now (g.P.Plant.stops c.args.plant.now) (g.P.Plant.stops c.open.new.plant) c.requires.stands c.in-Err-JournalBad.ensures.stays
