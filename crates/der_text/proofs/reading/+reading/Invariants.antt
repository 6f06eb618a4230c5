use Rattle.std.proofs.Common.{◌+◌, ◌*◌, ◌≤◌, length}
use Rattle.der_text.specs.View.{nodes}
use Rattle.der_text.specs.Reading.{BeginsWith}
use Rattle.der_text.proofs.reading.+reading.Given as goal

abbrev pub decreases-read_element : goal.decreases-read_element
decreases-read_element l = 2 * l.levels

abbrev pub decreases-read_parts : goal.decreases-read_parts
decreases-read_parts l = 2 * l.levels + 1

-- the parts so far stand before the rest
abbrev pub invariant-read_parts-loop-rest : goal.invariant-read_parts-loop-rest
invariant-read_parts-loop-rest l = record {
  read : BeginsWith l.levels l.content (nodes l.parts.items) l.rest;
  shorter : length l.rest ≤ length l.content;
}

abbrev pub decreases-read_parts-loop-rest : goal.decreases-read_parts-loop-rest
decreases-read_parts-loop-rest l = length l.rest
