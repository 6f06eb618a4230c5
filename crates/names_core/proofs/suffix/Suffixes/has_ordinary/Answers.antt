use Rattle.std.proofs.Common.{true, false, refl, sym, ◌∙◌}
use Rattle.names_core.specs.declared.rule.RuleKind.TheVariants.{Plain, Wild}
use Rattle.names_core.specs.Index.{is_listed}
use Rattle.names_core.proofs.SuffixLemmas.{ordinary-none, ordinary-some}
use Rattle.names_core.proofs.suffix.Suffixes.has_ordinary.Goals as goal

pub returns-in-None : goal.returns-in-None
returns-in-None c =
    let tail = c.args.tail.now in
    rw (← c.self.view_is) (c.has.ensures ∙ c.self.invariant Plain tail ∙ ordinary-none tail c.self.inside.rules.value c.in-None.ensures.cases)

pub returns-then-has : goal.returns-then-has
returns-then-has c =
    let tail = c.args.tail.now in
    let rules = c.self.inside.rules.value in
    let rest = c.in-Some.rest.now in
    let listed = sym c.if-has.true ∙ c.has-in-Some.ensures ∙ c.self.invariant Plain tail in
    rw (← c.self.view_is) (c.if-has.true ∙ ordinary-some tail c.in-Some.field-0-0.now rest rules true (is_listed Wild rest rules) c.in-Some.ensures.cases.0 listed refl)

pub returns-else-has : goal.returns-else-has
returns-else-has c =
    let tail = c.args.tail.now in
    let rules = c.self.inside.rules.value in
    let rest = c.in-Some.rest.now in
    let unlisted = sym c.if-has.false ∙ c.has-in-Some.ensures ∙ c.self.invariant Plain tail in
    rw (← c.self.view_is) (ordinary-some tail c.in-Some.field-0-0.now rest rules false c.has-else-has.result c.in-Some.ensures.cases.0 unlisted (c.has-else-has.ensures ∙ c.self.invariant Wild rest))
