use Rattle.std.proofs.Common.{◌≡◌, true, false, sym, ◌∙◌}
use Rattle.names_core.proofs.SuffixLemmas.{is_ordinary, longest_tail-here, longest_tail-none, longest_tail-next}
use Rattle.names_core.proofs.suffix.Suffixes.longest_ordinary.Goals as goal

pub returns-in_err-rest : goal.returns-in_err-rest
returns-in_err-rest c =
    let test = is_ordinary c.args.self.now in
    let fails : test c.loop-tail.tail.now ≡ false = sym c.has_ordinary.ensures ∙ c.loop-tail-test.true in
    c.from_residual.ensures ∙ sym (longest_tail-none test c.loop-tail.tail.now fails c.in_err-rest.ensures.cases) ∙ c.loop-tail.invariant

pub loop-tail-preserved : goal.loop-tail-preserved
loop-tail-preserved c =
    let test = is_ordinary c.args.self.now in
    let fails : test c.loop-tail.tail.now ≡ false = sym c.has_ordinary.ensures ∙ c.loop-tail-test.true in
    longest_tail-next test c.loop-tail.tail.now _ c.in_ok-rest.rest.now fails c.in_ok-rest.ensures.cases.0 ∙ c.loop-tail.invariant

pub returns : goal.returns
returns c =
    let test = is_ordinary c.args.self.now in
    let passes : test c.loop-tail.tail.now ≡ true = sym c.has_ordinary.ensures ∙ c.loop-tail-test.false in
    sym (longest_tail-here test c.loop-tail.tail.now passes) ∙ c.loop-tail.invariant
