use Rattle.std.proofs.Common.{List, ℕ, subst, inl, inr}
use Rattle.gate_machine.specs.Commands.Order.{HasFault, IsGoodOrder}
use Rattle.gate_machine.proofs.request.key_of.Goals as goal

pub key_in-requires : goal.key_in-requires
key_in-requires c =
    let good = subst IsGoodOrder c.in-Order.is c.requires.kept in
    record {
      kept = λ rule has. good rule (inr (inr (inr (inl (subst (λ (r : List ℕ). HasFault r rule) c.as_slice.ensures has)))));
    }
