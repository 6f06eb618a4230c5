use Rattle.std.proofs.Common.{List, ℕ, ◌∷◌, ◌++◌, ap, ◌∙◌}
use Rattle.std.specs.Fmt.{decimal}
use Rattle.std.proofs.lemmas.Result.{err_from_is_err_and}
use Rattle.wire_front.proofs.FrameLemmas.{head, no_head, no_end, no_body}
use Rattle.wire_front.proofs.message.find_body.Goals as goal

pub returns-in_err-rest-clause-absent : goal.returns-in_err-rest-clause-absent
returns-in_err-rest-clause-absent c =
    let returned = err_from_is_err_and c.from_residual.result c.from_residual.ensures.1 in
    rw (returned.1, returned.2) (no_head c.args.bytes.now c.in_err-rest.field-0.0 c.in_err-rest.ensures.absent)

pub returns-in_err-rest-2-clause-absent : goal.returns-in_err-rest-2-clause-absent
returns-in_err-rest-2-clause-absent c =
    let returned = err_from_is_err_and c.from_residual-in_err-rest-2.result c.from_residual-in_err-rest-2.ensures.1 in
    rw (returned.1, returned.2) (no_end c.args.bytes.now c.in_ok-size.rest.now c.in_ok-size.size c.in_ok-size.ensures.fits
    (c.in_ok-rest.ensures.found ∙ ap (λ (t : List ℕ). head ++ t) c.in_ok-size.ensures.found) c.in_err-rest-2.field-0.0 c.in_err-rest-2.ensures.absent)

pub returns-then-rest-size-clause-absent : goal.returns-then-rest-size-clause-absent
returns-then-rest-size-clause-absent c =
    no_body c.args.bytes.now c.in_ok-rest-2.rest.now c.in_ok-size.size c.in_ok-size.ensures.fits
    (c.in_ok-rest.ensures.found ∙ ap (λ (t : List ℕ). head ++ t) c.in_ok-size.ensures.found
    ∙ ap (λ (t : List ℕ). head ++ (decimal c.in_ok-size.size ++ 13 ∷ t)) c.in_ok-rest-2.ensures.found) c.if-rest-size.true
