use Rattle.std.proofs.Common.{ℕ, ◌<◌, ◌≤◌, List, length, take, drop, ap, subst, ◌∙◌}
use Rattle.http_frames.specs.declared.fields.Framing.TheVariants.{Body}
use Rattle.http_frames.proofs.FrameLemmas.{framing_found, message_found, begun_stands, large_stands, message_stands}
use Rattle.http_frames.proofs.front.behind_head.Goals as goal

pub returns-then-size-gt-BODY_LIMIT : goal.returns-then-size-gt-BODY_LIMIT
returns-then-size-gt-BODY_LIMIT c =
    let framing = framing_found c.args.bytes.now c.args.window.now c.args.room.now c.split_at.result.0.now c.args.spans.now.headers c.framing_of.result (Body c.in-Body.size)
    c.requires.window c.split_at.ensures.front c.framing_of.ensures.same c.in-Body.is in
    let enough = subst (λ (t : List ℕ). c.in-Body.size ≤ length t) c.split_at-2.ensures.back c.if-behind-size.false in
    large_stands c.args.bytes.now c.args.room.now c.args.spans.now c.requires.whole c.in-Body.size framing enough c.if-size-gt-BODY_LIMIT.true

pub returns : goal.returns
returns c =
    let framing = framing_found c.args.bytes.now c.args.window.now c.args.room.now c.split_at.result.0.now c.args.spans.now.headers c.framing_of.result (Body c.in-Body.size)
    c.requires.window c.split_at.ensures.front c.framing_of.ensures.same c.in-Body.is in
    let enough = subst (λ (t : List ℕ). c.in-Body.size ≤ length t) c.split_at-2.ensures.back c.if-behind-size.false in
    let cut = c.split_at-3.ensures.front ∙ ap (λ (t : List ℕ). take c.in-Body.size t) c.split_at-2.ensures.back in
    let says = message_found c.args.bytes.now c.args.window.now c.split_at-3.result.0.now (take c.in-Body.size (drop c.args.spans.now.len c.args.bytes.now)) c.args.room.now
    c.split_at.result.0.now c.args.spans.now c.in_ok-message.message c.requires.window c.split_at.ensures.front cut c.in_ok-message.ensures in
    message_stands c.args.bytes.now c.args.room.now c.args.spans.now c.requires.whole c.in-Body.size framing enough c.if-size-gt-BODY_LIMIT.false c.in_ok-message.message says

pub returns-then-behind-size : goal.returns-then-behind-size
returns-then-behind-size c =
    let framing = framing_found c.args.bytes.now c.args.window.now c.args.room.now c.split_at.result.0.now c.args.spans.now.headers c.framing_of.result (Body c.in-Body.size)
    c.requires.window c.split_at.ensures.front c.framing_of.ensures.same c.in-Body.is in
    let short = subst (λ (t : List ℕ). length t < c.in-Body.size) c.split_at-2.ensures.back c.if-behind-size.true in
    begun_stands c.args.bytes.now c.args.room.now c.args.spans.now c.requires.whole c.in-Body.size framing short
