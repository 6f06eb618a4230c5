use Rattle.std.proofs.Common.{[], ◌∷◌, refl, rules, arith}
use Rattle.plant.proofs.Moments.{left_torn}
use Rattle.plant.proofs.tests.written_over.Goals as goal

pub returns-clause-before : goal.returns-clause-before
returns-clause-before g c = left_torn c.write_at.new.self (97 ∷ 98 ∷ 99 ∷ []) (97 ∷ 98 ∷ 99 ∷ []) 1 2 (search rules) (search rules) (search rules)
    (record { front = refl; back = refl; no_shorter = omega arith; no_longer = omega arith })

pub returns-clause-written : goal.returns-clause-written
returns-clause-written g c = left_torn c.write_at.new.self (97 ∷ 98 ∷ 99 ∷ []) (97 ∷ 120 ∷ 121 ∷ []) 1 2 (search rules) (search rules) (search rules)
    (record { front = refl; back = refl; no_shorter = omega arith; no_longer = omega arith })

pub returns-clause-torn : goal.returns-clause-torn
returns-clause-torn g c = left_torn c.write_at.new.self (97 ∷ 98 ∷ 99 ∷ []) (97 ∷ 120 ∷ 0 ∷ []) 1 2 (search rules) (search rules) (search rules)
    (record { front = refl; back = refl; no_shorter = omega arith; no_longer = omega arith })
