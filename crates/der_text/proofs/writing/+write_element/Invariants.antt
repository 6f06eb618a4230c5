use Rattle.std.proofs.Common.{◌≡◌, ◌++◌, ◌≤◌, ◌^◌, length, drop, take}
use Rattle.der_text.specs.Tree.{spelling, spellings}
use Rattle.der_text.specs.View.{node, nodes}
use Rattle.der_text.proofs.writing.+write_element.Given as goal

-- what is written, and the parts to come
abbrev pub invariant-loop-part : goal.invariant-loop-part
invariant-loop-part l = record {
  written : l.out.items ++ spellings (nodes (drop l.part-index l.part-items)) ≡ l.fn.out.items ++ spelling (node l.tree);
  kept : take (length l.fn.out.items) l.out.items ≡ l.fn.out.items;
  few : length (spellings (nodes (drop l.part-index l.part-items))) ≤ 2 ^ 31;
}
