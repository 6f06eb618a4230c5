use Rattle.std.proofs.Common.{◌∙◌, ap, subst, List, ℕ}
use Rattle.wire_front.specs.Message.{BeginsWith, NeverHasMessage}
use Rattle.wire_front.specs.Stream.{StreamState}
use Rattle.wire_front.proofs.Streams.{ahead_of, never_ahead}
use Rattle.wire_front.proofs.streaming.Stream.take_held.Goals as goal

pub returns-in-Message-clause-ahead : goal.returns-in-Message-clause-ahead
returns-in-Message-clause-ahead g c =
    let view = c.deref.ensures.value ∙ ap (λ (s : StreamState). s.held) c.self.view_is in
    ahead_of c.in-Message.command c.in-Message.left c.use_up.result c.args.self.now (g.S.Source.told c.args.source.now)
    (subst (λ (b : List ℕ). BeginsWith b c.in-Message.command c.in-Message.left) view c.in-Message.ensures) c.use_up.ensures.ahead

pub returns-in-Never-clause-ahead : goal.returns-in-Never-clause-ahead
returns-in-Never-clause-ahead g c =
    let view = c.deref.ensures.value ∙ ap (λ (s : StreamState). s.held) c.self.view_is in
    never_ahead _ c.args.self.now (g.S.Source.told c.args.source.now) (subst (λ (b : List ℕ). NeverHasMessage b) view c.in-Never.ensures.1)
