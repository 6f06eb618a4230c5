use Rattle.std.proofs.Common.{ap, ◌∙◌}
use Rattle.http_frames.specs.Stream.{WireState}
use Rattle.http_frames.proofs.Streams.{message_taken, large_taken, unframed_told}
use Rattle.http_frames.proofs.wire.Wire.read_held.Goals as goal

pub returns-in-Ok-Message-clause-takes : goal.returns-in-Ok-Message-clause-takes
returns-in-Ok-Message-clause-takes g c =
    message_taken c.deref.result.now c.in-Ok-Message.field-0 c.in-Ok-Message.message c.in-Ok-Message.used c.args.self.now c.use_up.new.self
    (g.S.Source.told c.args.source.now) (c.deref.ensures.value ∙ ap (λ (w : WireState). w.held) c.self.view_is) c.in-Ok-Message.field-0-is c.in-Ok-Message.ensures
    c.use_up.ensures

pub returns-in-Ok-TooLarge-clause-takes : goal.returns-in-Ok-TooLarge-clause-takes
returns-in-Ok-TooLarge-clause-takes g c =
    large_taken c.deref.result.now c.in-Ok-TooLarge.field-0 c.in-Ok-TooLarge.used c.args.self.now c.use_up-in-Ok-TooLarge.new.self (g.S.Source.told c.args.source.now)
    (c.deref.ensures.value ∙ ap (λ (w : WireState). w.held) c.self.view_is) c.in-Ok-TooLarge.field-0-is c.in-Ok-TooLarge.ensures c.use_up-in-Ok-TooLarge.ensures

pub returns-in-Ok-Unframed-clause-tells : goal.returns-in-Ok-Unframed-clause-tells
returns-in-Ok-Unframed-clause-tells g c =
    unframed_told c.deref.result.now c.in-Ok-Unframed.field-0 c.in-Ok-Unframed.status c.args.self.now (g.S.Source.told c.args.source.now)
    (g.S.Source.told c.args.source.now) (c.deref.ensures.value ∙ ap (λ (w : WireState). w.held) c.self.view_is) c.in-Ok-Unframed.field-0-is c.in-Ok-Unframed.ensures
