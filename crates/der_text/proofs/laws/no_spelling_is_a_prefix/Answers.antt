use Rattle.std.proofs.Common.{sym, ◌∙◌}
use Rattle.std.proofs.lemmas.List.{append-nil}
use Rattle.der_text.specs.Tree.{spelling}
use Rattle.der_text.proofs.Trees.{same_node}
use Rattle.der_text.proofs.laws.no_spelling_is_a_prefix.Goals as goal

pub returns-clause-trees : goal.returns-clause-trees
returns-clause-trees c = λ tree other rest form form' e. (same_node 32 tree other _ rest form form' (append-nil (spelling tree) ∙ e)).trees

pub returns-clause-rests : goal.returns-clause-rests
returns-clause-rests c = λ tree other rest form form' e. sym (same_node 32 tree other _ rest form form' (append-nil (spelling tree) ∙ e)).rests
