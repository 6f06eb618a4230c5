-- The rows of what stands under a key.
use Rattle.std.proofs.Common.{◌≡◌, ◌≢◌, ℕ, Bool, true, false, List, [], Option, Some, None, refl, ◌↔◌}
use Rattle.std.specs.Prelude.{is_some, not, IsTrue}
use Rattle.gate_entries.specs.declared.entry.Entry.{Entry}
use Rattle.gate_machine.specs.Keys.{kept_for}
use Rattle.gate_machine.specs.Rows.{ComesUnderKey}
use Rattle.gate_machine.specs.Rules.{TellsLeast}

opposite : (b : Bool) → false ≡ not b → IsTrue b
opposite true is = refl
opposite false is = absurd (cc is)

-- where no rule is broken, and only there
pub comes : (before : List Entry) (caller key : List ℕ) (breaks : ℕ → Type 0) (told : Option ℕ) (none : Bool) → before ≢ [] → kept_for caller key before ≡ None
    → TellsLeast breaks told → is_some told ≡ not none → (IsTrue none ↔ ComesUnderKey before caller key breaks)
comes before caller key breaks None none some new tells is = (
  λ yes. record { some = some; new = new; fields = tells },
  λ row. opposite none is,
)
comes before caller key breaks (Some rule) none some new tells is = (
  λ yes. absurd (cc (yes, is)),
  λ row. absurd (row.fields rule tells.broken),
)
