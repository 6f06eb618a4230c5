use Rattle.gate_engine.proofs.Renewals.{renewed_on, fails_on}
use Rattle.gate_engine.proofs.engine.Engine.renew_other.Goals as goal

pub returns-clause-renewed : goal.returns-clause-renewed
returns-clause-renewed g c =
    renewed_on c.args.settings.now c.args.self.now.history (g.C.Clock.told c.args.clock.now) (g.C.Clock.told c.now.new.self) c.in-Ok.reading c.renew_at.new.self
    c.in-Ok.ensures (record { begun = c.if-reading-lt-FIRST_MOMENT.false; ended = c.if-reading-gt-LAST_MOMENT.false }) c.requires.other
    c.renew_at.result c.renew_at.ensures.renewed

pub returns-clause-fails : goal.returns-clause-fails
returns-clause-fails g c =
    fails_on c.args.settings.now c.args.self.now.history (g.C.Clock.told c.args.clock.now) (g.C.Clock.told c.now.new.self) c.in-Ok.reading c.renew_at.new.self
    c.in-Ok.ensures (record { begun = c.if-reading-lt-FIRST_MOMENT.false; ended = c.if-reading-gt-LAST_MOMENT.false })
    c.renew_at.result c.renew_at.ensures.fails
