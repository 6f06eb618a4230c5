use Rattle.journal_core.specs.Journal.{no_chain}
use Rattle.journal_core.proofs.Groups.{chain_after-push, opened-push}
use Rattle.journal_core.proofs.Gates.{length-journal, begun_is}
use Rattle.journal_core.proofs.law.one_group_more.Goals as goal

pub returns-clause-bytes : goal.returns-clause-bytes
returns-clause-bytes c = opened-push no_chain

pub returns-clause-chain : goal.returns-clause-chain
returns-clause-chain c = chain_after-push no_chain

pub returns-clause-size : goal.returns-clause-size
returns-clause-size c = length-journal

pub returns-clause-begun : goal.returns-clause-begun
returns-clause-begun c = begun_is
