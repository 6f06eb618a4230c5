use Rattle.journal_core.proofs.Gates.{journal_begins, one_journal, same_journal}
use Rattle.journal_core.proofs.law.one_reading.Goals as goal

pub returns-clause-begins : goal.returns-clause-begins
returns-clause-begins c = journal_begins

pub returns-clause-one : goal.returns-clause-one
returns-clause-one c = one_journal

pub returns-clause-same : goal.returns-clause-same
returns-clause-same c = same_journal
