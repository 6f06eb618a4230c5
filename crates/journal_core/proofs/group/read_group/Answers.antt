use Rattle.std.proofs.Common.{ℕ, sym, ◌∙◌, ap}
use Rattle.std.specs.Int.{w32, to_be_bytes}
use Rattle.journal_core.proofs.Groups.{whole_group}
use Rattle.journal_core.proofs.group.read_group.Goals as goal

pub returns-clause-whole : goal.returns-clause-whole
returns-clause-whole c =
    let number = c.split_at.ensures.front ∙ sym c.read_number-count.ensures.spelled ∙ ap (λ (n : ℕ). to_be_bytes w32 n) (sym c.split_at-3.ensures.front_len) in
    let link = c.is_same.ensures.0 c.if-not-is_same.false ∙ c.chain_of-next.ensures in
    whole_group c.args.chain.now c.split_at-3.result.0.now _ _ _ _ c.split_at-3.result.1.now _
    c.split_at.ensures.by_index.0 c.split_at-2.ensures.by_index.0 c.split_at-3.ensures.by_index.0 number link
