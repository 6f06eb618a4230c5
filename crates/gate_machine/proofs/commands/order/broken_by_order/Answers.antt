use Rattle.std.proofs.Common.{◌<◌, List, ℕ, sym, subst, arith}
use Rattle.std.specs.Prelude.{IfOk}
use Rattle.gate_base.specs.declared.name.Target.{Target}
use Rattle.gate_machine.specs.Commands.Order.{NamesBreak, RequestBreaks}
use Rattle.gate_machine.specs.Rules.{TellsLeast}
use Rattle.gate_machine.proofs.LeastRule.{none_broken, names_tell, long_is_least, request_tells}
use Rattle.gate_machine.proofs.commands.order.broken_by_order.Goals as goal

pub returns-then-is_some : goal.returns-then-is_some
returns-then-is_some c =
    names_tell c.args.key.now c.args.common c.args.days c.args.targets.now c.args.request.now (λ bad. cc (bad, c.is_key.ensures, c.if-not-is_key.false)) c.in_ok-rule.rule
    (sym c.if-is_some.ensures)
    (subst (λ (t : List Target). TellsLeast (NamesBreak c.args.common c.args.days t) c.in_ok-rule.rule) c.as_slice.ensures c.in_ok-rule.ensures)

pub returns-then-len-gt-MOST_REQUEST : goal.returns-then-len-gt-MOST_REQUEST
returns-then-len-gt-MOST_REQUEST c =
    long_is_least c.args.key.now c.args.common c.args.days c.args.targets.now c.args.request.now (λ bad. cc (bad, c.is_key.ensures, c.if-not-is_key.false))
    (none_broken (NamesBreak c.args.common c.args.days c.args.targets.now) c.in_ok-rule.rule (sym c.if-is_some.ensures)
    (subst (λ (t : List Target). TellsLeast (NamesBreak c.args.common c.args.days t) c.in_ok-rule.rule) c.as_slice.ensures c.in_ok-rule.ensures))
    (subst (λ (n : ℕ). 16384 < n) c.len.ensures c.if-len-gt-MOST_REQUEST.true)

pub returns : goal.returns
returns c =
    request_tells c.args.key.now c.args.common c.args.days c.args.targets.now c.args.request.now (λ bad. cc (bad, c.is_key.ensures, c.if-not-is_key.false))
    (none_broken (NamesBreak c.args.common c.args.days c.args.targets.now) c.in_ok-rule.rule (sym c.if-is_some.ensures)
    (subst (λ (t : List Target). TellsLeast (NamesBreak c.args.common c.args.days t) c.in_ok-rule.rule) c.as_slice.ensures c.in_ok-rule.ensures))
    (λ long. omega (arith, long, c.len.ensures, c.if-len-gt-MOST_REQUEST.false)) c.broken_by_request.result
    (subst (λ (r : List ℕ). IfOk c.broken_by_request.result (TellsLeast (RequestBreaks r c.args.targets.now))) c.as_slice-2.ensures
    (subst (λ (t : List Target). IfOk c.broken_by_request.result (TellsLeast (RequestBreaks c.as_slice-2.result.now t))) c.as_slice-3.ensures c.broken_by_request.ensures))
