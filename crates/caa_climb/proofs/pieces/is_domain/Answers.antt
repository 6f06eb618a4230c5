use Rattle.std.proofs.Common.{◌∙◌, sym}
use Rattle.caa_climb.specs.Reading.{is_label}
use Rattle.caa_climb.proofs.Places.{all_parts-front, all_parts-fails, all_parts-last}
use Rattle.caa_climb.proofs.pieces.is_domain.Goals as goal

pub returns-then-not-is_label : goal.returns-then-not-is_label
returns-then-not-is_label c =
    let fails = all_parts-fails is_label 46 c.pieces.rest.now c.in-Some.label.now c.in-Some.after.now c.in-Some.ensures.sides (sym c.if-not-is_label.ensures) in
    sym (c.pieces.invariant ∙ fails)

pub pieces-preserved : goal.pieces-preserved
pieces-preserved c =
    c.pieces.invariant
    ∙ all_parts-front is_label 46 c.pieces.rest.now c.in-Some.label.now c.in-Some.after.now c.in-Some.ensures.sides (sym c.if-not-is_label.ensures)

pub returns : goal.returns
returns c = c.is_label-2.ensures ∙ sym (c.pieces.invariant ∙ all_parts-last is_label 46 c.pieces.rest.now c.in_default.ensures.sides)
