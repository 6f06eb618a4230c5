use Rattle.std.proofs.Common.{[], ap, ◌∙◌}
use Rattle.std.proofs.lemmas.List.{map_push}
use Rattle.gate_entries.specs.Spelling.{entry_bytes}
use Rattle.journal_core.specs.Journal.{gate_place}
use Rattle.gate_machine.specs.History.{payloads_of}
use Rattle.gate_machine.proofs.Histories.{Legal-push, EachFollows-push}
use Rattle.gate_machine.proofs.law.one_entry_more.Goals as goal

pub returns-clause-each : goal.returns-clause-each
returns-clause-each c = EachFollows-push []

pub returns-clause-legal : goal.returns-clause-legal
returns-clause-legal c = λ history entry legal follows. Legal-push history entry legal.each follows

pub returns-clause-place : goal.returns-clause-place
returns-clause-place c history entry =
    ap gate_place (map_push entry_bytes history entry) ∙ c.one_group_more.ensures.place (payloads_of history) (entry_bytes entry)
