use Rattle.std.proofs.Common.{◌≡◌, ◌∙◌, sym, ap, ◌+◌, ◌-◌, length, take, drop, add-one, arith, length-drop}
use Rattle.std.specs.Prelude.{Some}
use Rattle.std.proofs.lemmas.List.{take_all}
use Rattle.caa_climb.proofs.Places.{cut_at-place, cut_at-no_place}
use Rattle.caa_climb.proofs.pieces.cut.Goals as goal

pub returns-in-Some-clause-sides : goal.returns-in-Some-clause-sides
returns-in-Some-clause-sides c =
    let text = c.args.text.now in
    let at = c.in-Some.at in
    let back : take (length text - (at + 1)) (drop (at + 1) text) ≡ drop (at + 1) text =
    take_all (length text - (at + 1)) (drop (at + 1) text) (omega (arith, length-drop (at + 1) text)) in
    ap (λ b. Some (take at text, b)) (back ∙ ap (λ n. drop n text) (add-one at))
    ∙ sym (cut_at-place c.args.byte text at c.in-Some.ensures.place)

pub returns-in-None-clause-sides : goal.returns-in-None-clause-sides
returns-in-None-clause-sides c = sym (cut_at-no_place c.args.byte c.args.text.now c.in-None.ensures.place)
