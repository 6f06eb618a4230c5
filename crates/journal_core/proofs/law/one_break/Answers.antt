use Rattle.journal_core.proofs.Gates.{one_place, breaks_no_journal}
use Rattle.journal_core.proofs.law.one_break.Goals as goal

pub returns-clause-place : goal.returns-clause-place
returns-clause-place c = one_place

pub returns-clause-no_journal : goal.returns-clause-no_journal
returns-clause-no_journal c = breaks_no_journal
