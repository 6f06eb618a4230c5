use Rattle.std.proofs.Common.{ℕ, List, ◌∷◌, ◌++◌, Option, option_map, sym, ◌∙◌, ap}
use Rattle.journal_core.specs.Journal.{begun_of, head}
use Rattle.journal_core.proofs.Moments.{keeps_on, keeps_stays, told_before}
use Rattle.journal_core.proofs.beginning.begin.Goals as goal

pub returns-in_err-write_first-clause-moments : goal.returns-in_err-write_first-clause-moments
returns-in_err-write_first-clause-moments g c =
    let first = c.length.ensures.moments in
    let second = c.write_first.ensures.moments in
    keeps_on _ _ _ (c.runs_join.ensures.joins c.args.plant.now c.length.new.self c.write_first.new.plant first.joins second.joins) (keeps_stays _ _ first) second

pub returns-clause-ok : goal.returns-clause-ok
unfolding begun_of
returns-clause-ok g c =
    c.in_ok-write_first.ensures.ok
    ∙ ap (λ (l : List ℕ). option_map (λ _. head ++ 1 ∷ l) (g.P.Plant.told c.length.new.self).disk.bytes) (c.deref.ensures.value ∙ c.in_ok-piece.ensures.piece)
    ∙ ap (λ (told : Option (List ℕ)). option_map (λ _. begun_of c.args.payload.now) told) c.length.ensures.bytes

pub returns-clause-durable : goal.returns-clause-durable
returns-clause-durable g c = λ image sent left.
    (told_before (λ _. begun_of c.args.payload.now) _ image
    (sym (returns-clause-ok g c) ∙ c.in_ok-write_first.ensures.durable image sent left)).2

pub returns-clause-moments : goal.returns-clause-moments
returns-clause-moments g c =
    let first = c.length.ensures.moments in
    let second = c.write_first.ensures.moments in
    keeps_on _ _ _ (c.runs_join.ensures.joins c.args.plant.now c.length.new.self c.write_first.new.plant first.joins second.joins) (keeps_stays _ _ first) second
