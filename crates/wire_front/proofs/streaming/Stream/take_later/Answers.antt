use Rattle.std.proofs.Common.{[], ap, arith}
use Rattle.wire_front.specs.Stream.{StreamState}
use Rattle.wire_front.proofs.Streams.{passes_none, passes_more, takes_later}
use Rattle.wire_front.proofs.streaming.Stream.take_later.Goals as goal

pub loop-self-init : goal.loop-self-init
loop-self-init g c = record {
  passes = passes_none c.args.self.now (g.S.Source.told c.args.source.now);
  later = omega arith;
  fits = omega (arith, c.self.invariant, ap (λ (s : StreamState). s.taken) c.self.view_is);
  none = c.requires.none;
}

pub returns-in-Some-clause-takes : goal.returns-in-Some-clause-takes
returns-in-Some-clause-takes g c =
    let passes = passes_more c.args.self.now c.loop-self.self c.take_more.new.self (g.S.Source.told c.args.source.now) (g.S.Source.told c.loop-self.source)
    (g.S.Source.told c.take_more.new.source) [] [] c.loop-self.invariant.passes c.take_more.ensures.passes in
    takes_later c.in-Some.taken c.args.self.now c.take_more.new.self c.take_held.new.self (g.S.Source.told c.args.source.now) (g.S.Source.told c.take_more.new.source)
    (g.S.Source.told c.take_more.new.source) passes c.in-Some.ensures.takes
