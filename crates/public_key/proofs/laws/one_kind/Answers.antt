use Rattle.public_key.proofs.Algorithms.{same_algorithm}
use Rattle.public_key.proofs.laws.one_kind.Goals as goal

pub returns : goal.returns
returns c = λ bytes kind other key key'.
    same_algorithm kind other key.algorithm key'.algorithm key.bits key'.bits
    (c.what_is_spelled_is_read.ensures.alone bytes _ _ key.spelled key'.spelled) key.named key'.named
