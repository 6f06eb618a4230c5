use Rattle.std.proofs.Common.{◌<◌, ◌^◌, List, ℕ, length, sym, ap, subst, inl, ◌∙◌}
use Rattle.std.specs.Option.{option_copied}
use Rattle.gate_machine.proofs.Sends.{sent_is_good}
use Rattle.gate_machine.proofs.Own.{send_as}
use Rattle.gate_machine.proofs.commands.finalize.judge_unsigned.Goals as goal

pub judge_body-requires-clause-few : goal.judge_body-requires-clause-few
judge_body-requires-clause-few c =
    let sent = send_as c.args.caller.now c.args.number c.args.history.now c.args.order.now c.requires.account c.requires.legal.each c.requires.order in
    let stands = sym sent ∙ sym c.send_seen.ensures ∙ ap option_copied c.in-Some.is in
    let good = sent_is_good c.args.number c.args.history.now c.in-Some.sent.now c.requires.legal.each stands in
    subst (λ (b : List ℕ). length b < 2 ^ 16) (sym (c.in_ok-body-in-Some.ensures ∙ c.body_in.ensures)) good.few

pub judge_body-requires-clause-body : goal.judge_body-requires-clause-body
judge_body-requires-clause-body c = λ fresh.
    let sent = send_as c.args.caller.now c.args.number c.args.history.now c.args.order.now c.requires.account c.requires.legal.each c.requires.order in
    let stands = sym sent ∙ sym c.send_seen.ensures ∙ ap option_copied c.in-Some.is in
    inl (record { sent = c.in-Some.sent.now; stands = stands; same = c.in_ok-body-in-Some.ensures ∙ c.body_in.ensures })
