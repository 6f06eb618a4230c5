use Rattle.std.proofs.Common.{List, ℕ, Some, sym, subst, ◌∙◌}
use Rattle.gate_machine.specs.Sends.{targets_of, HasFreshSerial, TellsNewSerial}
use Rattle.gate_machine.proofs.Sends.{is_new, is_no_new}
use Rattle.gate_machine.proofs.commands.finalize.is_new_body.Goals as goal

pub returns-in_default : goal.returns-in_default
returns-in_default c = (
  λ wrong. absurd (cc wrong),
  λ new. absurd (is_no_new c.args.before.now (targets_of c.args.order.now.what) c.args.body.now c.requires.few
      (subst (λ (b : List ℕ). ¬ (HasFreshSerial c.args.before.now b)) c.as_slice.ensures c.in_default.ensures) new),
)

pub returns : goal.returns
returns c =
    let iff = is_new c.args.before.now (targets_of c.args.order.now.what) c.args.body.now c.in-Some.serial c.requires.few
    (subst (λ (b : List ℕ). TellsNewSerial c.args.before.now b (Some c.in-Some.serial)) c.as_slice.ensures c.in-Some.ensures) in
    (λ same. iff.0 (sym c.in_ok-spelled.ensures.body ∙ c.is_same.ensures.0 same), λ new. c.is_same.ensures.1 (c.in_ok-spelled.ensures.body ∙ iff.1 new))
