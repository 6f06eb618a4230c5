use Rattle.std.proofs.Common.{sym, ap, ◌||◌, ◌∙◌}
use Rattle.std.specs.List.{list_any}
use Rattle.profile_lint.specs.Names.{target_eq}
use Rattle.profile_lint.specs.Parts.{has_twice}
use Rattle.profile_lint.specs.Seen.{is_seen}
use Rattle.profile_lint.proofs.SeenBefore.{one_more, none, not_seen}
use Rattle.profile_lint.proofs.twice.has_twice.Goals as goal

pub loop-first-init : goal.loop-first-init
loop-first-init c =
    sym (ap (λ b. b || has_twice target_eq c.args.targets.now) (none (is_seen c.new-seen.result) c.new-seen.ensures c.args.targets.now))

pub loop-first-preserved : goal.loop-first-preserved
loop-first-preserved c =
    c.loop-first.invariant
    ∙ ap (λ targets. list_any (is_seen c.loop-first.seen) targets || has_twice target_eq targets) c.in-Some.ensures.cases.0
    ∙ one_more target_eq (is_seen c.loop-first.seen) (is_seen c.see.new.self) c.in-Some.first.now c.in_ok-see.ensures.seen
    (not_seen c.if-not-branch.false c.in_ok-see.ensures.fresh) c.in-Some.others.now
