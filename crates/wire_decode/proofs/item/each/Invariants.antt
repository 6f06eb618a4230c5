use Rattle.std.proofs.Common.{◌≡◌, drop, IfOk}
use Rattle.std.specs.List.{AllByRecursion}
use Rattle.serde_json.specs.View.{items_view}
use Rattle.wire_decode.specs.Judgement.{some_before}
use Rattle.wire_decode.specs.Members.{each}
use Rattle.wire_decode.proofs.item.each.Given as goal

-- what was read stands in front of what the items that are left give
abbrev pub invariant-loop-value : goal.invariant-loop-value
invariant-loop-value g l =
    let read = g.T.FromItem.item_in in
    (each read (items_view l.items) ≡ some_before l.list (each read (items_view (drop l.value-index l.items))))
    × IfOk l.list (AllByRecursion g.T.FromItem.IsItem)
