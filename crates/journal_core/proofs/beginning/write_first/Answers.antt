use Rattle.std.proofs.Common.{ℕ, List, Option, ◌∷◌, option_map, ◌∙◌, ap}
use Rattle.plant.specs.Plant.{overwritten}
use Rattle.journal_core.proofs.Commits.{on_ok, first_written}
use Rattle.journal_core.proofs.Moments.{keeps_on, keeps_follows}
use Rattle.journal_core.proofs.beginning.write_first.Goals as goal

pub returns-clause-ok : goal.returns-clause-ok
returns-clause-ok g c =
    let old = (g.P.Plant.told c.args.plant.now).disk.bytes in
    let first = c.in_ok-write_synced.ensures.ok in
    on_ok c.commit.result _ _
    (λ second. second
    ∙ ap (λ (told : Option (List ℕ)). option_map (λ bytes. overwritten bytes 16 (1 ∷ c.args.piece.now)) told) first
    ∙ ap (λ (l : List ℕ). option_map (λ bytes. overwritten bytes 16 (1 ∷ c.args.piece.now)) (option_map (λ bytes. overwritten bytes 0 l) old)) c.blank.ensures.bytes
    ∙ first_written c.args.piece.now old c.requires.empty)
    c.commit.ensures.ok

pub returns-clause-moments : goal.returns-clause-moments
returns-clause-moments g c =
    let first = c.write_synced.ensures.moments in
    let second = c.commit.ensures.moments.keeps in
    keeps_on _ _ _ (c.runs_join.ensures.joins c.args.plant.now c.write_synced.new.plant c.commit.new.plant first.joins second.joins)
    (keeps_follows _ _ _ first) second
