use Rattle.der_text.proofs.Heads.{one_content}
use Rattle.der_text.proofs.laws.an_element_spells_one_content.Goals as goal

pub returns-clause-tags : goal.returns-clause-tags
returns-clause-tags c = λ tag other content others e. cc e

pub returns-clause-contents : goal.returns-clause-contents
returns-clause-contents c = one_content
