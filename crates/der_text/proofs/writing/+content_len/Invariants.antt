use Rattle.std.proofs.Common.{◌≡◌, ◌+◌, length, drop}
use Rattle.der_text.specs.Tree.{content_of, spellings}
use Rattle.der_text.specs.View.{node, nodes}
use Rattle.der_text.proofs.writing.+content_len.Given as goal

-- the sum, and the length of the parts to come
abbrev pub invariant-loop-part : goal.invariant-loop-part
invariant-loop-part l = l.sum + length (spellings (nodes (drop l.part-index l.part-items))) ≡ length (content_of (node l.tree))
