use Rattle.der_text.specs.Front.{front}
use Rattle.der_text.proofs.Paths.{split_found, split_never_fails}
use Rattle.der_text.proofs.part.split_element.Goals as goal

pub returns-in-Ok-clause-split : goal.returns-in-Ok-clause-split
returns-in-Ok-clause-split c = λ levels tree rest f e.
    let cut = split_found 31 levels _ (front c.in-Ok.front) c.split_at.result.0.now c.split_at.result.1.now tree rest c.in-Ok.ensures.found c.split_at.ensures.front c.split_at.ensures.back f e in
    cc

pub returns-in-Err-clause-split : goal.returns-in-Err-clause-split
returns-in-Err-clause-split c = λ levels tree rest f e. split_never_fails 31 levels _ c.in-Err.field-0 tree rest c.in-Err.ensures.fault f e
