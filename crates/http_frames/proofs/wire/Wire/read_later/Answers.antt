use Rattle.std.proofs.Common.{sym, subst, ◌∙◌, arith}
use Rattle.http_frames.specs.Frames.{IsUnfinished}
use Rattle.http_frames.specs.Stream.{Awaits, WireState}
use Rattle.http_frames.proofs.Streams.{GrowsBefore, grows_on, before_passes, takes_later, awaits_on}
use Rattle.http_frames.proofs.wire.Wire.read_later.Goals as goal

pub returns-in-Ok-clause-takes : goal.returns-in-Ok-clause-takes
returns-in-Ok-clause-takes g c =
    let before = grows_on c.args.self.now c.loop-self.self c.take_more.new.self (g.S.Source.told c.args.source.now) (g.S.Source.told c.loop-self.source)
    (g.S.Source.told c.take_more.new.source) c.loop-self.invariant.grows c.in-Bytes.ensures.gives in
    takes_later c.in-Ok.got c.args.self.now c.take_more.new.self c.read_held.new.self (g.S.Source.told c.args.source.now) (g.S.Source.told c.take_more.new.source)
    (g.S.Source.told c.take_more.new.source)
    (before_passes c.args.self.now c.take_more.new.self (g.S.Source.told c.args.source.now) (g.S.Source.told c.take_more.new.source) before) c.in-Ok.ensures.takes

pub loop-self-preserved : goal.loop-self-preserved
loop-self-preserved g c =
    let before = grows_on c.args.self.now c.loop-self.self c.take_more.new.self (g.S.Source.told c.args.source.now) (g.S.Source.told c.loop-self.source)
    (g.S.Source.told c.take_more.new.source) c.loop-self.invariant.grows c.in-Bytes.ensures.gives in
    record {
      grows = subst (λ (w : WireState). GrowsBefore c.args.self.now (g.S.Source.told c.args.source.now) w (g.S.Source.told c.take_more.new.source))
          (sym c.in-Err.ensures.same) before;
      later = omega (arith, c.loop-self.invariant.later, c.take_more.ensures.later);
      beside = c.take_more.ensures.beside ∙ c.loop-self.invariant.beside;
      fits = omega (arith, c.read_held.ensures.taken, c.take_more.ensures.fits);
      none = subst (λ (w : WireState). IsUnfinished w.held) (sym c.in-Err.ensures.same) c.in-Err.ensures.none;
      awaits = subst (λ (w : WireState). Awaits w.held c.in-Err.more) (sym c.in-Err.ensures.same) c.in-Err.ensures.awaits;
    }

pub read_held-requires-clause-awaits : goal.read_held-requires-clause-awaits
read_held-requires-clause-awaits g c =
    awaits_on c.loop-self.self c.take_more.new.self (g.S.Source.told c.loop-self.source) (g.S.Source.told c.take_more.new.source) c.loop-self.needs
    c.in-Bytes.ensures.gives c.loop-self.invariant.awaits
