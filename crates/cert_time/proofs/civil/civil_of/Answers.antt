use Rattle.std.proofs.Common.{arith, ◌/◌}
use Rattle.std.proofs.lemmas.Int.{to_z-of_z}
use Rattle.jiff_core.proofs.SignedLemmas.{signed_arith}
use Rattle.cert_time.proofs.Days.{date_is}
use Rattle.cert_time.proofs.civil.civil_of.Goals as goal

pub overflow_cast-result : goal.overflow_cast-result
overflow_cast-result c = grind (arith, to_z-of_z, signed_arith, date_is (c.args.moment.0 / 86400) c.in-Ok.date)
