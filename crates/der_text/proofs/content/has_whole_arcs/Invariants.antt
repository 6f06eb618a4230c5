use Rattle.std.proofs.Common.{◌≡◌, drop}
use Rattle.der_text.specs.Content.{ends_arcs}
use Rattle.der_text.proofs.content.has_whole_arcs.Given as goal

abbrev pub invariant-loop-b : goal.invariant-loop-b
invariant-loop-b l = ends_arcs l.before (drop l.b-index l.content) ≡ ends_arcs 0 l.content
