use Rattle.std.proofs.Common.{◌≡◌, ℕ, ◌-◌, List, length, drop, ap, ◌∙◌}
use Rattle.wire_front.specs.Stream.{StreamState}
use Rattle.wire_front.proofs.Streams.{takes_message}
use Rattle.wire_front.proofs.streaming.Stream.use_up.Goals as goal

pub returns-in-Ok-clause-takes : goal.returns-in-Ok-clause-takes
returns-in-Ok-clause-takes g c =
    let view : c.deref.result.now ≡ c.args.self.now.held = c.deref.ensures.value ∙ ap (λ (s : StreamState). s.held) c.self.view_is in
    let rest : c.in-Ok.rest.items ≡ drop (length c.args.self.now.held - c.args.left) c.args.self.now.held =
    c.in-Ok.ensures.items ∙ c.last_of.ensures ∙ ap (λ (t : List ℕ). drop (length t - c.args.left) t) view in
    let taken : c.self.inside.taken ≡ c.args.self.now.taken = ap (λ (s : StreamState). s.taken) c.self.view_is in
    takes_message c.args.self.now _ (g.S.Source.told c.args.source.now) c.args.command c.args.left c.requires rest taken
