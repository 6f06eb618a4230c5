use Rattle.profile_lint.proofs.lint.lint_body.Goals as goal

pub returns-clause-exact : goal.returns-clause-exact
returns-clause-exact c = c.a_list_tells_each_rule.ensures _ _ _ _ _ c.in_ok-list.ensures
