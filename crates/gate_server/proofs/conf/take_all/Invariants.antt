use Rattle.std.proofs.Common.{◌≤◌, ◌-◌, length}
use Rattle.std.specs.Io.KnownBytes.{Consumes}
use Rattle.gate_server.specs.Conf.{most_read}
use Rattle.gate_server.proofs.conf.take_all.Given as goal

abbrev pub invariant-loop-piece : goal.invariant-loop-piece
invariant-loop-piece g l = record {
  taken : Consumes (g.F.Source.told l.fn.conf).left (g.F.Source.told l.conf).left l.bytes.items;
  fits : length l.bytes.items ≤ most_read;
  later : (g.F.Source.told l.fn.conf).faults ≤ (g.F.Source.told l.conf).faults;
}

abbrev pub decreases-loop-piece : goal.decreases-loop-piece
decreases-loop-piece g l = most_read - length l.bytes.items
