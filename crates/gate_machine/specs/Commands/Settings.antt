-- Settings, which no command asks for: which are in force, and their row in a legal history.
use Rattle.std.specs.Prelude.{◌≡◌, ℕ, List, [], Some}
use Rattle.gate_settings.specs.Meaning.{IsReadable}
use Rattle.evidence_index.specs.Lookups.{settings_bytes}
use Rattle.gate_entries.specs.declared.entry.Entry.{Entry}

-- the last entry of settings says these bytes
abbrev pub AreInForce : List ℕ → List Entry → Type 0
AreInForce bytes history = settings_bytes history ≡ Some bytes

-- they are nobody's, readable, and other bytes than those in force
pub record SettingsCome (before : List Entry) (caller bytes : List ℕ) : Type 0 where
  pub nobody : caller ≡ []
  pub readable : IsReadable bytes
  pub other : ¬ (AreInForce bytes before)
