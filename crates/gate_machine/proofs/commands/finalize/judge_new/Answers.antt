use Rattle.std.proofs.Common.{rules, ◌≡◌, List, ℕ, length, sym, ap, inr, ◌∙◌}
use Rattle.tbs_build.specs.Small.{IsSerial}
use Rattle.gate_machine.specs.Sends as sends
use Rattle.gate_machine.proofs.Own.{send_as}
use Rattle.gate_machine.proofs.commands.finalize.judge_new.Goals as goal

pub judge_body-requires-clause-body : goal.judge_body-requires-clause-body
judge_body-requires-clause-body c = λ fresh.
    let sent = send_as c.args.caller.now c.args.number c.args.history.now c.args.order.now c.requires.account c.requires.legal.each c.requires.order in
    let size : length c.masked-serial.result.0 ≡ 16 = search rules in
    let is_serial : IsSerial c.masked-serial.result.0 = search rules in
    inr (
      sym sent ∙ c.requires.unsent,
      record {
        serial = c.masked-serial.result.0;
        is_serial = is_serial;
        size = size;
        spelled = c.in_ok-body.ensures.body;
        new = ap (λ (s : List ℕ). sends.send_with s c.args.history.now) c.masked-serial.ensures ∙ fresh;
      },
    )
