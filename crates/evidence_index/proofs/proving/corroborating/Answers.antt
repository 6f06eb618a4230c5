use Rattle.std.proofs.Common.{◌≡◌, ℕ, List, None, ap, sym, ◌∙◌, arith}
use Rattle.std.specs.List.{list_any, slice_get}
use Rattle.evidence_index.specs.Evidence.{corroborates, is_near, good_times}
use Rattle.evidence_index.proofs.Members.{made_more, none_past}
use Rattle.evidence_index.proofs.proving.corroborating.Goals as goal
use Rattle.evidence_index.proofs.proving.corroborating.Goals.{in-Some+in_ok-is_good+in_ok-push, in_default}

pub loop-place-preserved : goal.loop-place-preserved
loop-place-preserved c =
    elim c.match-member.branch [
      | in-Some+in_ok-is_good+in_ok-push w ↦
          let told = ap (λ (id : List ℕ). list_any (is_near c.args.seen_at) (good_times id c.args.c.now c.args.entries.now)) w.as_slice.ensures in
          made_more (corroborates c.args.c.now c.args.seen_at c.args.entries.now) c.args.panel.now c.loop-place.place w.in-Some.member.now
          c.loop-place.good.items c.match-member.good.items w.in_ok-is_good.is_good w.in-Some.ensures c.loop-place.invariant
          (w.in_ok-is_good.ensures ∙ told) (cc (w.good-is, w.in_ok-push.ensures.items))
      | in_default w ↦
          let none : slice_get c.args.panel.now c.loop-place.place ≡ None = sym w.in_default.ensures in
          let past = none_past c.args.panel.now c.loop-place.place none in
          absurd (omega arith)
    ]
