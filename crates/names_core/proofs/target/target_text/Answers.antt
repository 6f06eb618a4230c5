use Rattle.names_core.proofs.TargetText.{target_read-text}
use Rattle.names_core.proofs.target.target_text.Goals as goal

pub returns-clause-again : goal.returns-clause-again
returns-clause-again c = λ read. target_read-text c.args.t.now read

pub returns-in_err-text-clause-again : goal.returns-in_err-text-clause-again
returns-in_err-text-clause-again c = λ read. target_read-text c.args.t.now read
