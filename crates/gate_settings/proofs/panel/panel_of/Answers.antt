use Rattle.std.proofs.Common.{◌∙◌, ap, sym, subst}
use Rattle.perspectives.specs.Panel.{IsPanel}
use Rattle.gate_settings.specs.Members.{members_of}
use Rattle.gate_settings.proofs.Panels.{panel_kept}
use Rattle.gate_settings.proofs.panel.panel_of.Goals as goal

pub returns-in-Ok-clause-kept : goal.returns-in-Ok-clause-kept
returns-in-Ok-clause-kept c =
    panel_kept (members_of c.args.document.now.perspectives) c.in_ok-members.members
    (ap members_of (sym c.as_slice.ensures) ∙ c.in_ok-members.ensures)
    (subst (λ members. IsPanel members) c.as_slice-2.ensures c.in-Ok.ensures.rules)
