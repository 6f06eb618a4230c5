use Rattle.std.proofs.Common.{arith}
use Rattle.wire_front.proofs.CutLemmas.{size_begun}
use Rattle.wire_front.proofs.cutting.short_of_size.Goals.{else-bytes-le-BODY_LIMIT_DIGITS-via-then-bytes-le-BODY_LIMIT_DIGITS+else-are_digits, else-bytes-le-BODY_LIMIT_DIGITS-via-else-bytes-le-BODY_LIMIT_DIGITS}
use Rattle.wire_front.proofs.cutting.short_of_size.Goals as goal

pub returns-else-bytes-le-BODY_LIMIT_DIGITS : goal.returns-else-bytes-le-BODY_LIMIT_DIGITS
returns-else-bytes-le-BODY_LIMIT_DIGITS c = λ more starts.
    let begun = size_begun c.args.bytes.now more c.requires starts in
    elim c.else-bytes-le-BODY_LIMIT_DIGITS.branch [
      | else-bytes-le-BODY_LIMIT_DIGITS-via-then-bytes-le-BODY_LIMIT_DIGITS+else-are_digits w ↦
          let digits = begun.1 in
          let refused = w.are_digits.ensures in
          let wrong = w.if-are_digits.false in
          absurd cc
      | else-bytes-le-BODY_LIMIT_DIGITS-via-else-bytes-le-BODY_LIMIT_DIGITS w ↦ omega (arith, begun.0, w.if-bytes-le-BODY_LIMIT_DIGITS.false)
    ]
