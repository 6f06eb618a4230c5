use Rattle.csr10.proofs.Forms as forms
use Rattle.csr10.proofs.laws.forms_are_read.Goals as goal

pub returns-clause-requests : goal.returns-clause-requests
returns-clause-requests c =
    let law = c.parts_are_read_as_they_stand.ensures in
    forms.requests law.parts law.primitive law.constructed law.none

pub returns-clause-attributes : goal.returns-clause-attributes
returns-clause-attributes c =
    let law = c.parts_are_read_as_they_stand.ensures in
    forms.attributes law.parts law.primitive law.constructed law.none

pub returns-clause-extensions : goal.returns-clause-extensions
returns-clause-extensions c =
    let law = c.parts_are_read_as_they_stand.ensures in
    forms.extensions law.parts law.primitive law.constructed law.none
