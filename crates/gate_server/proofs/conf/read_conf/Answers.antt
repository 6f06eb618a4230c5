use Rattle.std.proofs.Common.{◌≡◌, List, ℕ, subst, take}
use Rattle.gate_settings.specs.declared.fault.SettingsFault.{SettingsFault}
use Rattle.gate_settings.specs.declared.fault.SettingsFault.TheVariants as settings_faults
use Rattle.gate_settings.specs.Rules.{IsLeastFault}
use Rattle.gate_server.specs.Conf.{most_read}
use Rattle.gate_server.proofs.conf.read_conf.Goals as goal

pub returns-in-Err-Rule-clause-refuses : goal.returns-in-Err-Rule-clause-refuses
returns-in-Err-Rule-clause-refuses g c = λ left is.
    let given = c.in_ok-bytes.ensures.gave left is in
    let same : c.deref.result.now ≡ take most_read left = cc (given, c.deref.ensures.value) in
    let told = subst (λ (f : SettingsFault). IsLeastFault c.deref.result.now f) c.in-Err-Rule.field-0-is c.in-Err-Rule.ensures.fault in
    subst (λ (b : List ℕ). IsLeastFault b (settings_faults.Rule c.in-Err-Rule.rule c.in-Err-Rule.item)) same told
