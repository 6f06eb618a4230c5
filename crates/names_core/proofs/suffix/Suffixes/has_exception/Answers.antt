use Rattle.std.proofs.Common.{◌∙◌}
use Rattle.names_core.specs.declared.rule.RuleKind.TheVariants.{Exception}
use Rattle.names_core.proofs.SuffixLemmas.{exceptions-listed}
use Rattle.names_core.proofs.suffix.Suffixes.has_exception.Goals as goal

pub returns : goal.returns
returns c = rw (← c.self.view_is) (c.has.ensures ∙ c.self.invariant Exception c.args.tail.now ∙ exceptions-listed c.args.tail.now c.self.inside.rules.value)
