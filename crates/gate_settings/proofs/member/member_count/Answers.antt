use Rattle.std.proofs.Common.{sym, ap, ◌∙◌}
use Rattle.toml.specs.View.{view}
use Rattle.gate_settings.specs.Reading.{member_count}
use Rattle.gate_settings.proofs.Counts.{member_count-Table}
use Rattle.gate_settings.proofs.member.member_count.Goals as goal

pub returns-in-Table : goal.returns-in-Table
returns-in-Table c =
    c.len.ensures.len ∙ sym (member_count-Table c.in-Table.members) ∙ ap (λ v. member_count (view v)) (sym c.in-Table.is)
