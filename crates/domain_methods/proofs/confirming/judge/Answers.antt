use Rattle.std.proofs.Common.{sym, ◌∙◌}
use Rattle.std.proofs.lemmas.Result.{IfOk-weaker}
use Rattle.domain_methods.proofs.VerdictLemmas.{verdict_of-records, verdict_of-website}
use Rattle.domain_methods.proofs.confirming.judge.Goals as goal

pub returns-in-Dns : goal.returns-in-Dns
returns-in-Dns c =
    let kind = sym c.is_of_another_kind.ensures ∙ c.if-is_of_another_kind.false in
    let time = sym c.is_out_of_time.ensures ∙ c.if-is_out_of_time.false in
    c.judge_records.ensures c.args.seen_at.0 ∙ sym (verdict_of-records c.args.c.now c.args.seen.now c.in-Dns.records c.args.seen_at.0 c.in-Dns.is kind time)

pub returns : goal.returns
returns c =
    let kind = sym c.is_of_another_kind.ensures ∙ c.if-is_of_another_kind.false in
    let time = sym c.is_out_of_time.ensures ∙ c.if-is_out_of_time.false in
    IfOk-weaker c.judge_website.result _ _
    (λ verdict is. is c.args.seen_at.0 ∙ sym (verdict_of-website c.args.c.now c.args.seen.now c.in-Web.website c.args.seen_at.0 c.in-Web.is kind time))
    c.judge_website.ensures
