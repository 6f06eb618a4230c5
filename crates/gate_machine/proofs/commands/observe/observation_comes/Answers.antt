use Rattle.std.proofs.Common.{rules, ◌≡◌, ◌≢◌, true, [], None}
use Rattle.std.specs.Prelude.{is_some}
use Rattle.gate_machine.specs.Commands.Observe.{challenge_at}
use Rattle.gate_machine.specs.Keys.{kept_for}
use Rattle.gate_machine.specs.Rows.{IsTimely}
use Rattle.gate_machine.specs.Rules.{KeyBreaks}
use Rattle.gate_machine.proofs.Rows.{comes}
use Rattle.gate_machine.proofs.commands.observe.observation_comes.Goals as goal

pub returns : goal.returns
returns c =
    let some : c.args.before.now ≢ [] = search rules in
    let new : kept_for c.args.caller.now c.args.key.now c.args.before.now ≡ None = search rules in
    let timely : IsTimely c.args.seen_at c.args.moment = search rules in
    let there : is_some (challenge_at c.args.challenge c.args.before.now) ≡ true = search rules in
    let row = comes c.args.before.now c.args.caller.now c.args.key.now (KeyBreaks c.args.key.now) c.broken_by_key.result c.is_none-2.result some new c.broken_by_key.ensures c.is_none-2.ensures in
    (λ yes. record { under = row.0 yes; there = there; timely = timely }, λ comes. row.1 comes.under)
