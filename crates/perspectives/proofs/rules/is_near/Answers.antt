use Rattle.std.proofs.Common.{◌≡◌, rules, ◌-ℤ◌}
use Rattle.std.specs.Prelude.{unsigned_abs}
use Rattle.perspectives.proofs.rules.is_near.Goals as goal

pub returns : goal.returns
returns c =
    let a = c.args.a.now in
    let b = c.args.b.now in
    let x : c.abs_diff.result ≡ unsigned_abs (a.x -ℤ b.x) = search rules in
    let y : c.abs_diff-2.result ≡ unsigned_abs (a.y -ℤ b.y) = search rules in
    let z : c.abs_diff-3.result ≡ unsigned_abs (a.z -ℤ b.z) = search rules in
    rw (← x, ← y, ← z) c.is_short.ensures
