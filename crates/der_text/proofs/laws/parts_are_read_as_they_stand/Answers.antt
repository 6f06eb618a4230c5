use Rattle.der_text.proofs.Inversion as inversion
use Rattle.der_text.proofs.laws.parts_are_read_as_they_stand.Goals as goal

pub returns-clause-content : goal.returns-clause-content
returns-clause-content c = inversion.contents

pub returns-clause-parts : goal.returns-clause-parts
returns-clause-parts c = inversion.inner_parts

pub returns-clause-primitive : goal.returns-clause-primitive
returns-clause-primitive c = inversion.primitives

pub returns-clause-constructed : goal.returns-clause-constructed
returns-clause-constructed c = inversion.constructs

pub returns-clause-none : goal.returns-clause-none
returns-clause-none c = inversion.ends
