use Rattle.std.proofs.Common.{ℕ, List, subst, ◌∙◌}
use Rattle.profile_lint.specs.Lint.{IsLint}
use Rattle.tbs_build.specs.Plan.{Plan, plan_of}
use Rattle.sound_body.proofs.tests.lint_at_first.Goals as goal

pub returns : goal.returns
returns c =
    let plan : Plan = plan_of c.args.plan.now in
    let lint = subst
    (λ (bytes : List ℕ). IsLint bytes plan.profile c.args.suffixes.now c.args.plan.now.not_before c.in_ok-list.list)
    (c.as_slice.ensures ∙ c.in_ok-body.ensures.body) c.in_ok-list.ensures.exact in
    c.the_lint_of_a_sound_body.ensures.list plan c.args.suffixes.now c.args.plan.now.not_before c.in_ok-list.list
    c.requires.sound c.requires.octets lint
