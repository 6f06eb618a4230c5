use Rattle.std.proofs.Common.{sym}
use Rattle.wire_front.proofs.CutLemmas.{no_numeral}
use Rattle.wire_front.proofs.cutting.read_number.Goals as goal

pub returns-then-not-is_numeral : goal.returns-then-not-is_numeral
returns-then-not-is_numeral c = no_numeral c.args.text.now (sym c.if-not-is_numeral.ensures)
