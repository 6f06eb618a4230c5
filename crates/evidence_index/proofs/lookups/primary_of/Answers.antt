use Rattle.evidence_index.proofs.Primary.{primary_found}
use Rattle.evidence_index.proofs.lookups.primary_of.Goals as goal

pub returns : goal.returns
returns c = primary_found c.args.panel.now c.primary.result.now c.primary.ensures.is c.primary.ensures.only
