use Rattle.journal_core.proofs.Gates.{not_refused}
use Rattle.journal_core.proofs.law.no_journal_is_refused.Goals as goal

pub returns : goal.returns
returns c = not_refused
