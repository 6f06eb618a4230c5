use Rattle.std.proofs.Common.{ℕ, ◌<◌, ◌^◌, List, length, sym, subst}
use Rattle.tbs_build.specs.Plan.{plan_of}
use Rattle.tbs_build.proofs.body.build.Goals as goal

pub returns-clause-few_targets : goal.returns-clause-few_targets
returns-clause-few_targets c = λ few.
    subst (λ (bytes : List ℕ). length bytes < 2 ^ 16) (sym c.in_ok-body.ensures.body)
    (c.a_body_of_few_targets_is_short.ensures.few_targets (plan_of c.args.p.now) c.requires.sound few)
