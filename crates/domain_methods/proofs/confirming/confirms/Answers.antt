use Rattle.std.proofs.lemmas.Result.{IfOk-weaker}
use Rattle.domain_methods.proofs.VerdictLemmas.{IsVerdict-is}
use Rattle.domain_methods.proofs.confirming.confirms.Goals as goal

pub returns-clause-verdict : goal.returns-clause-verdict
returns-clause-verdict c =
    IfOk-weaker c.judge.result _ _ (λ verdict is. IsVerdict-is c.args.c.now c.args.seen.now c.args.seen_at.0 verdict is) c.judge.ensures
