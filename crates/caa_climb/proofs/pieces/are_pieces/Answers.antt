use Rattle.std.proofs.Common.{◌∙◌, sym}
use Rattle.caa_climb.specs.Reading.{is_piece}
use Rattle.caa_climb.proofs.Places.{all_parts-front, all_parts-fails, all_parts-last}
use Rattle.caa_climb.proofs.pieces.are_pieces.Goals as goal

pub returns-then-not-is_piece : goal.returns-then-not-is_piece
returns-then-not-is_piece c =
    let fails = all_parts-fails is_piece 59 c.pieces.rest.now c.in-Some.piece.now c.in-Some.after.now c.in-Some.ensures.sides (sym c.if-not-is_piece.ensures) in
    sym (c.pieces.invariant ∙ fails)

pub pieces-preserved : goal.pieces-preserved
pieces-preserved c =
    c.pieces.invariant
    ∙ all_parts-front is_piece 59 c.pieces.rest.now c.in-Some.piece.now c.in-Some.after.now c.in-Some.ensures.sides (sym c.if-not-is_piece.ensures)

pub returns : goal.returns
returns c = c.is_piece-2.ensures ∙ sym (c.pieces.invariant ∙ all_parts-last is_piece 59 c.pieces.rest.now c.in_default.ensures.sides)
