use Rattle.std.proofs.Common.{refl}
use Rattle.der_text.proofs.Trees.{one_tree, no_first_fault}
use Rattle.der_text.proofs.laws.what_is_spelled_is_read.Goals as goal

pub returns-clause-spelled : goal.returns-clause-spelled
returns-clause-spelled c = λ tree form. record { spelled = refl; form = form }

pub returns-clause-alone : goal.returns-clause-alone
returns-clause-alone c = one_tree

pub returns-clause-faultless : goal.returns-clause-faultless
returns-clause-faultless c = no_first_fault
