use Rattle.std.proofs.Common.{◌≡◌, drop}
use Rattle.toml.specs.View.{items_view}
use Rattle.gate_settings.specs.Reading.{each, before_each}
use Rattle.gate_settings.proofs.member.each.Given as goal

-- what was read stands in front of what the items that are left give
abbrev pub invariant-loop-value : goal.invariant-loop-value
invariant-loop-value g l =
    let read = g.T.FromItem.item_value in
    each read (items_view l.items) ≡ before_each l.list (each read (items_view (drop l.value-index l.items)))
