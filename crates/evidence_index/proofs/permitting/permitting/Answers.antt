use Rattle.std.proofs.Common.{◌≡◌, ℕ, List, None, ap, sym, ◌∙◌, arith}
use Rattle.std.specs.List.{slice_get}
use Rattle.std.specs.Option.{is_none}
use Rattle.evidence_index.specs.Caa.{latest_caa, latest_why, permits}
use Rattle.evidence_index.proofs.Members.{made_more, none_past}
use Rattle.evidence_index.proofs.permitting.permitting.Goals as goal
use Rattle.evidence_index.proofs.permitting.permitting.Goals.{in-Some+in_ok-is_good+in_ok-push, in_default}

pub loop-place-preserved : goal.loop-place-preserved
loop-place-preserved c =
    let q = c.args.q.now in
    elim c.match-member.branch [
      | in-Some+in_ok-is_good+in_ok-push w ↦
          let told = ap (λ (id : List ℕ). is_none (latest_why q.target.now q.name.now q.issuers.now q.moment.0
          (latest_caa id q.order q.target.now c.args.entries.now))) w.as_slice.ensures in
          made_more (permits q.issuers.now q.order q.target.now q.name.now q.moment.0 c.args.entries.now) c.args.panel.now c.loop-place.place
          w.in-Some.member.now c.loop-place.good.items c.match-member.good.items w.in_ok-is_good.is_good w.in-Some.ensures
          c.loop-place.invariant (w.in_ok-is_good.ensures ∙ told) (cc (w.good-is, w.in_ok-push.ensures.items))
      | in_default w ↦
          let none : slice_get c.args.panel.now c.loop-place.place ≡ None = sym w.in_default.ensures in
          let past = none_past c.args.panel.now c.loop-place.place none in
          absurd (omega arith)
    ]
