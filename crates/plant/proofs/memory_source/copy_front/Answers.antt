use Rattle.std.proofs.Common.{◌≡◌, ◌≤◌, length, take, drop, sym, ap, ◌∙◌, arith}
use Rattle.plant.proofs.Pieces.{moved}
use Rattle.plant.proofs.memory_source.copy_front.Goals as goal

pub returns-clause-given : goal.returns-clause-given
returns-clause-given c =
    let back : c.split_at.result.1.now ≡ drop c.args.at c.args.bytes.now = c.split_at.ensures.back ∙ ap (drop c.args.at) c.as_slice.ensures in
    let copied : c.split_at-2.result.0.now ≡ take c.min-count.result (drop c.args.at c.args.bytes.now) =
    c.split_at-2.ensures.front ∙ ap (take c.min-count.result) back in
    let within : c.min-count.result ≤ length (drop c.args.at c.args.bytes.now) = omega (arith, ap length back) in
    rw c.put_front.ensures.whole (sym (moved c.args.bytes.now _ _ c.args.at c.min-count.result copied within))
