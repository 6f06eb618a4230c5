use Rattle.std.proofs.Common.{sym}
use Rattle.gate_entries.proofs.Names.{every_found, every_none}
use Rattle.gate_entries.proofs.naming.read_name_text.Goals as goal

pub returns-clause-found : goal.returns-clause-found
returns-clause-found c = every_found c.args.text.now c.in_ok-found.found (sym c.in_ok-found.ensures)

pub returns-clause-none : goal.returns-clause-none
returns-clause-none c = every_none c.args.text.now c.in_ok-found.found (sym c.in_ok-found.ensures)
