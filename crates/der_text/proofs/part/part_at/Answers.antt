use Rattle.std.proofs.Common.{ℕ, ◌+◌, List, get_or, drop, subst}
use Rattle.der_text.proofs.Paths.{Leads, leads_on, drop_step}
use Rattle.der_text.proofs.part.part_at.Goals as goal

pub loop-i-preserved : goal.loop-i-preserved
loop-i-preserved c =
    let path = c.args.path.now in
    let so_far = subst (λ (left : List ℕ). Leads c.args.bytes.now path c.loop-i.part.now left) (drop_step path c.loop-i.i-index c.loop-i-test.true) c.loop-i.invariant in
    leads_on c.args.bytes.now path c.loop-i.part.now c.in_ok-part.part.now (drop (c.loop-i.i-index + 1) path) (get_or path c.loop-i.i-index 0) so_far c.in_ok-part.ensures
