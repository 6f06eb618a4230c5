use Rattle.std.proofs.Common.{rules, ◌≡◌, true, inr, subst}
use Rattle.gate_entries.specs.Command.{may_ask}
use Rattle.gate_machine.specs.declared.place.Place.{Place}
use Rattle.gate_machine.specs.Answer.{Judges, IsInRange}
use Rattle.gate_machine.specs.Sight.{sight_of}
use Rattle.gate_machine.proofs.answer.answer_command.Goals as goal

pub returns-clause-answers : goal.returns-clause-answers
returns-clause-answers c =
    let role : may_ask c.args.caller.now.role c.args.command.now ≡ true = search rules in
    let in_range : IsInRange c.args.reading = search rules in
    let judges = subst (λ (p : Place). Judges (sight_of c.args.caller.now c.args.history.now) p c.args.caller.now c.args.command.now c.args.drawn c.in_ok-draft.draft)
    c.place_of-place.ensures.place c.in_ok-draft.ensures.judges in
    inr (role, inr (in_range, (c.in_ok-draft.draft, judges, c.ended.ensures.ends)))
