use Rattle.std.proofs.Common.{◌<◌, ◌^◌, ◌≤◌, List, ℕ, length, sym, ap, subst, ◌∙◌}
use Rattle.std.specs.Option.{option_copied}
use Rattle.gate_machine.specs.Sends as sends
use Rattle.gate_machine.proofs.Sends.{signed_was_sent, sent_is_good}
use Rattle.gate_machine.proofs.Own.{send_as, signed_as}
use Rattle.gate_machine.proofs.commands.finalize.judge_signed.Goals as goal

pub unreachable-requires : goal.unreachable-requires
unreachable-requires c =
    let signed = sym (signed_as c.args.caller.now c.args.number c.args.history.now c.args.order.now c.requires.account c.requires.legal.each c.requires.order) ∙ c.requires.stands in
    let was = signed_was_sent c.args.number c.args.history.now c.args.signed.now c.requires.legal.each signed in
    let sent = send_as c.args.caller.now c.args.number c.args.history.now c.args.order.now c.requires.account c.requires.legal.each c.requires.order in
    let none = sym c.send_seen.ensures ∙ ap option_copied c.in_default.is in
    let wrong = sym none ∙ sent ∙ was.stands in
    cc wrong

pub unreachable-requires-in_default-to_sixteen : goal.unreachable-requires-in_default-to_sixteen
unreachable-requires-in_default-to_sixteen c =
    let sent = send_as c.args.caller.now c.args.number c.args.history.now c.args.order.now c.requires.account c.requires.legal.each c.requires.order in
    let stands = sym sent ∙ sym c.send_seen.ensures ∙ ap option_copied c.in-Some.is in
    let good = sent_is_good c.args.number c.args.history.now c.in-Some.sent.now c.requires.legal.each stands in
    c.in_default-to_sixteen.ensures (ap length (c.serial_in.ensures ∙ ap sends.serial_in c.body_in-body.ensures) ∙ good.serial)

pub whole_certificate-requires-clause-body : goal.whole_certificate-requires-clause-body
whole_certificate-requires-clause-body c =
    let sent = send_as c.args.caller.now c.args.number c.args.history.now c.args.order.now c.requires.account c.requires.legal.each c.requires.order in
    let stands = sym sent ∙ sym c.send_seen.ensures ∙ ap option_copied c.in-Some.is in
    let good = sent_is_good c.args.number c.args.history.now c.in-Some.sent.now c.requires.legal.each stands in
    subst (λ (b : List ℕ). length b < 2 ^ 16) (sym c.body_in-body.ensures) good.few

pub whole_certificate-requires-clause-signature : goal.whole_certificate-requires-clause-signature
whole_certificate-requires-clause-signature c =
    let signed = sym (signed_as c.args.caller.now c.args.number c.args.history.now c.args.order.now c.requires.account c.requires.legal.each c.requires.order) ∙ c.requires.stands in
    let was = signed_was_sent c.args.number c.args.history.now c.args.signed.now c.requires.legal.each signed in
    subst (λ (s : List ℕ). (1 ≤ length s) × (length s ≤ 1024)) (sym c.signature_in.ensures) (was.some, was.most)
