use Rattle.std.proofs.Common.{◌≡◌, ◌<◌, ◌≤◌, ◌^◌, drop}
use Rattle.der_text.specs.Fault.{number_behind, number_of}
use Rattle.der_text.proofs.front.big_endian.Given as goal

-- how far the number has come, and how large so many bytes can make it
abbrev pub invariant-loop-b : goal.invariant-loop-b
invariant-loop-b l = record {
  value : number_behind l.number (drop l.b-index l.bytes) ≡ number_of l.bytes;
  none : l.b-index ≤ 0 → l.number < 1;
  one : l.b-index ≤ 1 → l.number < 2 ^ 8;
  two : l.b-index ≤ 2 → l.number < 2 ^ 16;
  three : l.b-index ≤ 3 → l.number < 2 ^ 24;
}
