use Rattle.std.proofs.Common.{false, sym, rules}
use Rattle.std.proofs.lemmas.Fmt.{hex_byte}
use Rattle.wire_decode.proofs.texts.byte_hex.Goals as goal

pub returns : goal.returns
returns c = let same = hex_byte false c.args.byte c.ranges.byte.fits in rw (sym same) (search rules)
