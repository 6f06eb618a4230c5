use Rattle.gate_entries.proofs.Pieces.{six}
use Rattle.gate_entries.proofs.room.push_signed.Goals as goal

pub returns-clause-ok : goal.returns-clause-ok
returns-clause-ok c =
    six _ _ _ _ _ _ _ _ _ _ _ _ _ c.in_ok-push.ensures.items c.in_ok-push_u64.ensures.ok c.in_ok-push_u64-2.ensures.ok c.in_ok-push_counted.ensures.ok
    c.in_ok-push_u64-3.ensures.ok c.in_ok-push_counted-2.ensures.ok
