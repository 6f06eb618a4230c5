use Rattle.std.proofs.Common.{◌≡◌, ◌+◌, drop}
use Rattle.gate_settings.specs.Members.{members_from, members_then}
use Rattle.gate_settings.proofs.panel.members_of.Given as goal

-- the members so far stand in front of those of the rows that are left
abbrev pub invariant-loop-row : goal.invariant-loop-row
invariant-loop-row l = record {
  place : l.place ≡ l.row-index + 1;
  members : members_from 1 l.rows ≡ members_then l.members (members_from l.place (drop l.row-index l.rows));
}
