use Rattle.std.proofs.Common.{length, Err, ap, arith}
use Rattle.journal_core.specs.declared.fault.BeginFault.{BeginFault}
use Rattle.gate_server.proofs.running.begin_at.Goals as goal

pub returns-in-Err-NotEmpty-clause-begins : goal.returns-in-Err-NotEmpty-clause-begins
returns-in-Err-NotEmpty-clause-begins g c =
    let count = c.in-Err-NotEmpty.length in
    let told = c.in-Err-NotEmpty.ensures in
    let is = ap (λ (fault : BeginFault). Err fault) c.in-Err-NotEmpty.field-0-is in
    record {
      some = told.some count is;
      size = told.not_empty count is;
      keeps = λ bytes held.
          let size = told.not_empty count is bytes held in
          let same = told.same bytes held (λ none. omega (arith, told.some count is, size, ap length none)) in
          record { bytes = same.0; stays = same.1 };
    }
