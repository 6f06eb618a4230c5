use Rattle.std.proofs.Common.{sym}
use Rattle.public_key.proofs.Trees.{rsa_by_numbers}
use Rattle.public_key.proofs.bits.is_rsa.Goals as goal

pub returns-in-Some : goal.returns-in-Some
returns-in-Some c =
    let law = c.parts_are_read_as_they_stand.ensures in
    rsa_by_numbers law.parts law.primitive law.none _ _ (c.in-Some.modulus.now, c.in-Some.exponent.now) _ c.in-Ok.ensures.ok c.in-Ok.ensures.same (sym c.in-Some.ensures) c.are_good.ensures
