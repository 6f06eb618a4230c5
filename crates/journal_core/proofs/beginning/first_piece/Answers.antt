use Rattle.std.proofs.Common.{[], ◌∷◌, ◌++◌, length, ap, arith, length-append}
use Rattle.journal_core.specs.Journal.{group}
use Rattle.journal_core.proofs.Groups.{group_length}
use Rattle.journal_core.proofs.beginning.first_piece.Goals as goal

pub returns-clause-size : goal.returns-clause-size
returns-clause-size c =
    let piece = group c.first_chain.result c.args.payload.now in
    omega (
      arith,
      ap length c.in_ok-push_group.ensures.ok,
      ap length c.new-piece.ensures.items,
      length-append c.new-piece.result.items (piece ++ 0 ∷ []),
      length-append piece (0 ∷ []),
      group_length c.first_chain.result c.args.payload.now,
    )
