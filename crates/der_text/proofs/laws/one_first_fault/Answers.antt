use Rattle.der_text.proofs.Faults.{one_first}
use Rattle.der_text.proofs.laws.one_first_fault.Goals as goal

pub returns : goal.returns
returns c = one_first
