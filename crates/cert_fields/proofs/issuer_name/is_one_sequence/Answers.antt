use Rattle.cert_fields.proofs.IssuerNames.{several}
use Rattle.cert_fields.proofs.issuer_name.is_one_sequence.Goals as goal

pub returns-in-len2-up : goal.returns-in-len2-up
returns-in-len2-up c = several _ c.in-len2-up.len_at_least
