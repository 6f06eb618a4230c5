use Rattle.std.proofs.Common.{sym, ◌∙◌}
use Rattle.std.proofs.lemmas.Result.{IfOk-weaker}
use Rattle.gate_base.specs.declared.seen.Seen.TheVariants as kinds
use Rattle.domain_methods.specs.Rules.{content_rules, way_rules}
use Rattle.domain_methods.proofs.VerdictLemmas.{verdict_by-broken, verdict_by-good}
use Rattle.domain_methods.proofs.website.judge_website.Goals as goal

pub returns-in-Good : goal.returns-in-Good
returns-in-Good c =
    let way = c.in_ok-judge_way.ensures in
    IfOk-weaker c.judge_body.result _ _
    (λ verdict is at. is at ∙ sym (verdict_by-good way_rules content_rules c.args.c.now (kinds.Web c.args.seen.now) at (sym (way at) ∙ c.in-Good.is)))
    c.judge_body.ensures

pub returns-in-Broken : goal.returns-in-Broken
returns-in-Broken c = λ at.
    let way = c.in_ok-judge_way.ensures in
    sym (verdict_by-broken way_rules content_rules c.args.c.now (kinds.Web c.args.seen.now) at c.in-Broken.number (sym (way at) ∙ c.in-Broken.is))
