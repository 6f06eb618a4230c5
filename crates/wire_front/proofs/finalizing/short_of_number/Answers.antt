use Rattle.std.proofs.Common.{arith}
use Rattle.wire_front.proofs.FinalizeLemmas.{number_begun}
use Rattle.wire_front.proofs.finalizing.short_of_number.Goals.{else-bytes-le-NUMBER_LIMIT-via-then-bytes-le-NUMBER_LIMIT+else-are_digits, else-bytes-le-NUMBER_LIMIT-via-else-bytes-le-NUMBER_LIMIT}
use Rattle.wire_front.proofs.finalizing.short_of_number.Goals as goal

pub returns-else-bytes-le-NUMBER_LIMIT : goal.returns-else-bytes-le-NUMBER_LIMIT
returns-else-bytes-le-NUMBER_LIMIT c = λ more starts.
    let begun = number_begun c.args.bytes.now more c.requires starts in
    elim c.else-bytes-le-NUMBER_LIMIT.branch [
      | else-bytes-le-NUMBER_LIMIT-via-then-bytes-le-NUMBER_LIMIT+else-are_digits w ↦
          let digits = begun.1 in
          let refused = w.are_digits.ensures in
          let wrong = w.if-are_digits.false in
          absurd cc
      | else-bytes-le-NUMBER_LIMIT-via-else-bytes-le-NUMBER_LIMIT w ↦ omega (arith, begun.0, w.if-bytes-le-NUMBER_LIMIT.false)
    ]
