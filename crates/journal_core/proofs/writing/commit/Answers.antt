use Rattle.std.proofs.Common.{ℕ, List, Option, subst}
use Rattle.plant.specs.Tearing.{TornTold}
use Rattle.journal_core.proofs.Commits.{commits_first, commits_both, torn_commit, on_err}
use Rattle.journal_core.proofs.writing.commit.Goals as goal

pub returns-in_err-write_synced-clause-moments : goal.returns-in_err-write_synced-clause-moments
returns-in_err-write_synced-clause-moments g c =
    commits_first c.args.at c.args.piece.now _ _ _ c.write_synced.ensures.moments

pub returns-clause-err : goal.returns-clause-err
returns-clause-err g c =
    on_err c.write_synced-2.result _ _
    (λ torn. torn_commit c.args.at c.args.piece.now _ _ c.requires.begins
    (subst (λ (told : Option (List ℕ)). TornTold c.args.at 1 told (g.P.Plant.told c.write_synced-2.new.plant).disk.bytes) c.in_ok-write_synced.ensures.ok torn))
    c.write_synced-2.ensures.err

pub returns-clause-moments : goal.returns-clause-moments
returns-clause-moments g c =
    commits_both c.args.at c.args.piece.now _ _ _ _ _ c.requires.begins c.in_ok-write_synced.ensures.ok c.write_synced.ensures.moments
    c.in_ok-write_synced.ensures.durable c.write_synced-2.ensures.moments
    (c.runs_join.ensures.joins c.args.plant.now c.write_synced.new.plant c.write_synced-2.new.plant c.write_synced.ensures.moments.joins c.write_synced-2.ensures.moments.joins)
