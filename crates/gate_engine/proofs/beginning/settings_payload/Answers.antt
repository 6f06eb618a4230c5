use Rattle.std.proofs.Common.{◌≡◌, ℕ, List, ◌++◌, length, ap, ◌∙◌, arith}
use Rattle.gate_entries.specs.Spelling.{entry_bytes}
use Rattle.gate_engine.proofs.Stands.{some_bytes}
use Rattle.gate_engine.proofs.beginning.settings_payload.Goals as goal

pub returns-clause-payload : goal.returns-clause-payload
returns-clause-payload c =
    let bytes = entry_bytes c.in_ok-entry.entry in
    let whole : c.write_entry.new.out.items ≡ bytes = c.in_ok-write_entry.ensures.ok ∙ ap (λ (l : List ℕ). l ++ bytes) c.new-payload.ensures.items in
    let size : length c.write_entry.new.out.items ≡ length bytes = ap length whole in
    record { some = omega (arith, some_bytes c.in_ok-entry.entry, size); fits = omega (arith, c.in_ok-entry.ensures.spelled.size, size) }
