use Rattle.std.proofs.Common.{◌≡◌, Err, sym, ap, subst, ◌∙◌, arith}
use Rattle.gate_entries.specs.declared.fault.FieldFault.{FieldFault}
use Rattle.gate_entries.specs.Field.{Fails}
use Rattle.gate_entries.specs.Reading.{whole_entry}
use Rattle.gate_entries.proofs.Entries.{entry_found, entry_again}
use Rattle.gate_entries.proofs.reading.read_entry.Goals as goal

pub returns-in-Ok-clause-found : goal.returns-in-Ok-clause-found
returns-in-Ok-clause-found c = entry_found c.args.bytes.now c.in-Ok.entry (λ i. omega (arith, c.type_inv.bytes i)) c.in-Ok.ensures.exact

pub returns-in-Ok-clause-only : goal.returns-in-Ok-clause-only
returns-in-Ok-clause-only c = λ entry is same. sym (ap whole_entry same ∙ entry_again entry is) ∙ c.in-Ok.ensures.exact

pub returns-in-Err-Left-clause-only : goal.returns-in-Err-Left-clause-only
returns-in-Err-Left-clause-only c = λ entry is same.
    let bytes = c.args.bytes.now in
    let refused : whole_entry bytes ≡ Err c.in-Err-Left.left = subst (λ (fault : FieldFault). Fails fault (whole_entry bytes)) c.in-Err-Left.field-0-is c.in-Err-Left.ensures.exact in
    let wrong = sym (ap whole_entry same ∙ entry_again entry is) ∙ refused in
    absurd cc
