-- What the settings' source gives, and how its bytes are judged before anything else is touched.
use Rattle.std.specs.Prelude.{◌≡◌, ℕ, List, take, true}
use Rattle.std.specs.Option.{ForSome}
use Rattle.plant.specs.Causes.{Rose}
use Rattle.plant.specs.Stream.{SourceTold}
use Rattle.gate_settings.specs.declared.fault.SettingsFault.TheVariants as settings_faults
use Rattle.gate_settings.specs.Meaning.{IsReadable}
use Rattle.gate_settings.specs.Rules.{IsLeastFault}
use Rattle.gate_server.specs.declared.status.Status.{Status}
use Rattle.gate_server.specs.declared.status.Status.TheVariants as statuses

-- the most bytes that are read: one more than settings may have
abbrev pub most_read : ℕ
most_read = 1048577

-- the bytes are all that the source has, or the first so many
abbrev pub Gave : SourceTold → List ℕ → Type 0
Gave conf bytes = ForSome conf.left (λ left. bytes ≡ take most_read left)

-- the source gave these bytes, and they are readable settings
pub record Accepts (conf : SourceTold) (bytes : List ℕ) : Type 0 where
  pub gave : Gave conf bytes
  pub readable : IsReadable bytes

-- Why no settings are read: the source failed; its bytes break a rule, with this item and no lesser rule; or there is no memory.
abbrev pub RefusesSettings : SourceTold → SourceTold → Status → Type 0
RefusesSettings conf conf' (statuses.ReadFault settings) = (settings ≡ true) × Rose conf.faults conf'.faults
RefusesSettings conf conf' (statuses.SettingsBad rule item) =
    ForSome conf.left (λ left. IsLeastFault (take most_read left) (settings_faults.Rule rule item))
RefusesSettings conf conf' statuses.NoMemory = Unit {0}
RefusesSettings conf conf' statuses.Ok = ⊥
RefusesSettings conf conf' statuses.Usage = ⊥
RefusesSettings conf conf' statuses.NotBegun = ⊥
RefusesSettings conf conf' (statuses.NotEmpty count) = ⊥
RefusesSettings conf conf' (statuses.JournalBad at) = ⊥
RefusesSettings conf conf' statuses.DiskFault = ⊥
RefusesSettings conf conf' statuses.WriteFault = ⊥
RefusesSettings conf conf' statuses.StreamLong = ⊥
RefusesSettings conf conf' statuses.Full = ⊥
RefusesSettings conf conf' statuses.ClockFault = ⊥
RefusesSettings conf conf' (statuses.ClockRange reading) = ⊥
RefusesSettings conf conf' statuses.NotBuilt = ⊥
