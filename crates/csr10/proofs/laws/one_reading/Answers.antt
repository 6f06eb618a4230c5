use Rattle.csr10.proofs.OneReading.{one_fields, no_first_fault, one_first}
use Rattle.csr10.proofs.laws.one_reading.Goals as goal

pub returns-clause-fields : goal.returns-clause-fields
returns-clause-fields c = one_fields c.what_is_spelled_is_read.ensures.alone c.one_kind.ensures

pub returns-clause-faultless : goal.returns-clause-faultless
returns-clause-faultless c = no_first_fault c.what_is_spelled_is_read.ensures.alone c.what_is_spelled_is_read.ensures.faultless

pub returns-clause-fault : goal.returns-clause-fault
returns-clause-fault c = one_first c.what_is_spelled_is_read.ensures.alone c.what_is_spelled_is_read.ensures.faultless c.one_first_fault.ensures
