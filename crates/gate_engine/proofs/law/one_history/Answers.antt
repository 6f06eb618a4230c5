use Rattle.std.proofs.Common.{[]}
use Rattle.gate_machine.specs.History.{payloads_of}
use Rattle.gate_engine.proofs.Histories.{same_history, not_bad}
use Rattle.gate_engine.proofs.law.one_history.Goals as goal

pub returns-clause-one : goal.returns-clause-one
returns-clause-one c = λ bytes left right l r is_left is_right.
    same_history c.one_spelling.ensures [] left right l.each r.each (c.one_reading.ensures.one bytes (payloads_of left) (payloads_of right) is_left is_right)

pub returns-clause-good : goal.returns-clause-good
returns-clause-good c = λ bytes history at legal journal bad.
    not_bad c.one_spelling.ensures c.one_reading.ensures.one c.one_break.ensures.no_journal bytes history at legal journal bad
