use Rattle.std.proofs.Common.{rules, ◌≡◌, ◌≢◌, ◌∙◌, List, [], Some, None, sym, ap, subst}
use Rattle.std.specs.Option.{option_copied}
use Rattle.gate_base.specs.declared.name.Target.{Target}
use Rattle.gate_entries.specs.declared.entry.Entry.{Entry}
use Rattle.gate_machine.specs.Commands.ObserveCaa.{CaaBreaks, order_at}
use Rattle.gate_machine.specs.Keys.{kept_for}
use Rattle.gate_machine.specs.Rows.{ComesUnderKey, IsTimely}
use Rattle.gate_machine.specs.Rules.{TellsLeast}
use Rattle.gate_machine.specs.Sends.{targets_of}
use Rattle.gate_machine.proofs.Rows.{comes}
use Rattle.gate_machine.proofs.Sends.{some_is}
use Rattle.gate_machine.proofs.commands.observe_caa.caa_comes.Goals as goal

pub returns : goal.returns
returns c =
    let stands : order_at c.args.number c.args.before.now ≡ Some c.in-Some.order.now = sym c.order_at.ensures ∙ ap option_copied c.in-Some.is in
    let some : c.args.before.now ≢ [] = search rules in
    let new : kept_for c.args.caller.now c.args.key.now c.args.before.now ≡ None = search rules in
    let timely : IsTimely c.args.seen_at c.args.moment = search rules in
    let tells : TellsLeast (CaaBreaks c.args.key.now c.args.target.now (targets_of c.in-Some.order.now.what)) c.broken_by_caa.result =
    subst (λ (t : List Target). TellsLeast (CaaBreaks c.args.key.now c.args.target.now t) c.broken_by_caa.result) c.targets_of.ensures c.broken_by_caa.ensures in
    let row = comes c.args.before.now c.args.caller.now c.args.key.now (CaaBreaks c.args.key.now c.args.target.now (targets_of c.in-Some.order.now.what))
    c.broken_by_caa.result c.is_none.result some new tells c.is_none.ensures in (
      λ yes. record { order = c.in-Some.order.now; there = stands; under = row.0 yes; timely = timely },
      λ caa. row.1 (subst (λ (o : Entry). ComesUnderKey c.args.before.now c.args.caller.now c.args.key.now (CaaBreaks c.args.key.now c.args.target.now (targets_of o.what)))
          (some_is caa.order c.in-Some.order.now (sym caa.there ∙ stands)) caa.under),
    )
