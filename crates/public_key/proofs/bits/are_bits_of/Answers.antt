use Rattle.public_key.proofs.bits.are_bits_of.Goals as goal

pub returns-in-Rsa : goal.returns-in-Rsa
returns-in-Rsa c = rw c.in-Rsa.is c.is_rsa.ensures
