use Rattle.std.proofs.Common.{◌≡◌, ◌+◌, suc, drop, get_or, sym, ap, ◌∙◌, arith}
use Rattle.serde_json.specs.Data.{item}
use Rattle.serde_json.specs.View.{view, items_view}
use Rattle.wire_decode.specs.Judgement.{some_before}
use Rattle.wire_decode.specs.Members.{each}
use Rattle.wire_decode.proofs.Counts.{items_from}
use Rattle.wire_decode.proofs.Judgements.{one_step, all_step}
use Rattle.wire_decode.proofs.item.each.Goals as goal

pub loop-value-preserved : goal.loop-value-preserved
loop-value-preserved g c =
    let read = g.T.FromItem.item_in in
    let items = c.args.items.now in
    let place = c.loop-value.value-index in
    let value = c.value-item.result in
    let up : suc place ≡ place + 1 = omega arith in
    let behind = items_view (drop (place + 1) items) in
    let cut = items_from items place value c.loop-value-test.true
    ∙ ap (λ n. item (view (get_or items place value)) (items_view (drop n items))) up ∙ ap (λ v. item (view v) behind) (sym c.value-item.is) in
    let before = c.loop-value.invariant.0 ∙ ap (λ xs. some_before c.loop-value.list (each read xs)) cut in (
      one_step read (each read (items_view items)) c.loop-value.list c.in_ok-list.list c.in_ok-from_item.field-0 (view value) behind before
          c.in_ok-from_item.ensures.exact c.in_ok-list.ensures,
      all_step g.T.FromItem.IsItem c.loop-value.list c.in_ok-list.list c.in_ok-from_item.field-0 c.loop-value.invariant.1 c.in_ok-from_item.ensures.is
          c.in_ok-list.ensures,
    )
