use Rattle.std.proofs.Common.{Err, ap, ◌∙◌}
use Rattle.gate_engine.proofs.Renewals.{extends_waiting}
use Rattle.gate_engine.proofs.engine.Engine.renew_at.Goals as goal

pub returns-in-Err-Disk-clause-extends : goal.returns-in-Err-Disk-clause-extends
returns-in-Err-Disk-clause-extends g c =
    extends_waiting c.args.self.now.history c.in-Some.entry c.add.new.self (c.add.ensures.lost (c.in-Err-Disk.is ∙ ap Err c.in-Err-Disk.field-0-is))
