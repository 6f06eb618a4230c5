use Rattle.std.proofs.Common.{sym}
use Rattle.std.proofs.lemmas.Result.{err_from_is_err_and}
use Rattle.std.proofs.lemmas.Bool.{eqb-false}
use Rattle.der_text.proofs.Readings.{none_at_fault, none_before_rest, no_other}
use Rattle.der_text.proofs.reading.read_tree.Goals as goal

pub returns-in_err-tree-clause-only : goal.returns-in_err-tree-clause-only
returns-in_err-tree-clause-only c =
    let p = err_from_is_err_and c.from_residual.result c.from_residual.ensures.1 in
    rw (p.1, p.2) (none_at_fault _ c.in_err-tree.field-0.0 c.in_err-tree.ensures.fault)

pub returns-then-not-is_empty-clause-only : goal.returns-then-not-is_empty-clause-only
returns-then-not-is_empty-clause-only c = λ tree is.
    none_before_rest _ _ tree _ c.in_ok-tree.ensures.ok (eqb-false _ _ (sym c.if-not-is_empty.ensures)) is

pub returns-clause-same : goal.returns-clause-same
returns-clause-same c = λ other is. no_other _ _ other _ c.in_ok-tree.ensures.ok is
