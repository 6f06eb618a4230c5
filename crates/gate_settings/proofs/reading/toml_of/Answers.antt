use Rattle.std.proofs.Common.{◌≡◌, Some, option_map, sym, ap, ◌∙◌}
use Rattle.toml.specs.Data.{table}
use Rattle.toml.specs.declared.de.error.Error.{Error}
use Rattle.toml.specs.Errors.{IsMemory}
use Rattle.toml.proofs.Views.{view-Table}
use Rattle.gate_settings.proofs.Toml.{toml_of-utf8, no_toml}
use Rattle.gate_settings.proofs.reading.toml_of.Goals as goal

pub returns-in-Ok : goal.returns-in-Ok
returns-in-Ok c =
    let read = c.in-Ok.ensures.ok in
    ap (option_map table) (toml_of-utf8 c.args.bytes.now read.0 ∙ read.1) ∙ ap Some (sym (view-Table c.in-Ok.table))

pub returns-in-Err-2 : goal.returns-in-Err-2
returns-in-Err-2 c =
    let same : c.in-Err-2.field-0 ≡ c.in-Err.fault = cc (c.in-Err-2.is, c.in-Err.is) in
    let other : ¬ (IsMemory c.in-Err-2.field-0) = λ m. cc (c.if-is_memory.ensures.1 (ap (λ (e : Error). e.kind) (sym same) ∙ m)) in
    ap (option_map table) (no_toml c.args.bytes.now (c.in-Err-2.ensures.refused other))
