use Rattle.profile_lint.proofs.twice.see_octets.Goals as goal

pub returns-clause-seen : goal.returns-clause-seen
returns-clause-seen c other = c.in_ok-insert.ensures.updates.0 (record c.args.octets { now = other })
