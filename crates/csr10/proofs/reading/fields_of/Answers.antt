use Rattle.std.proofs.Common.{refl}
use Rattle.std.proofs.lemmas.Result.{err_from_is_err_and}
use Rattle.csr10.proofs.Faults.{san_fault}
use Rattle.csr10.proofs.reading.fields_of.Goals as goal

pub returns-in_default-clause-err : goal.returns-in_default-clause-err
returns-in_default-clause-err c = (
  λ bad. bad (c.if-not-is_zero.ensures.0 refl),
  λ kind key. absurd (cc ((c.in_ok-kind.ensures kind).0 key, c.in_default.is)),
)

pub returns-in_err-san-clause-err : goal.returns-in_err-san-clause-err
returns-in_err-san-clause-err c =
    let p = err_from_is_err_and c.from_residual-in_err-san.result c.from_residual-in_err-san.ensures.1 in
    let key = (c.in_ok-kind.ensures c.in-Some.kind).1 c.in-Some.is in
    rw (p.1, p.2) (san_fault _ c.in-Some.kind c.in_err-san.field-0.0 (c.if-not-is_zero.ensures.0 refl) key c.in_err-san.ensures.err)
