use Rattle.gate_machine.specs.Step.{Asked}
use Rattle.gate_machine.specs.Step.Item.{Exchange}
use Rattle.gate_server.specs.Session.{talk_of}
use Rattle.gate_server.proofs.Talks.{turns_put}
use Rattle.gate_server.proofs.session.turn.Goals as goal

pub returns-clause-turns : goal.returns-clause-turns
returns-clause-turns g c =
    let old = talk_of c.args.engine.now (g.P.Plant.told c.args.plant.now) (g.C.Clock.told c.args.clock.now) (g.E.Entropy.told c.args.entropy.now) c.args.stream.now
    (g.S.Source.told c.args.source.now) (g.K.Sink.told c.args.sink.now) in
    let new = talk_of c.ask-reply.new.self (g.P.Plant.told c.ask-reply.new.plant) (g.C.Clock.told c.ask-reply.new.clock)
    (g.E.Entropy.told c.ask-reply.new.entropy) c.take_message.new.self (g.S.Source.told c.take_message.new.source) (g.K.Sink.told c.put_reply.new.sink) in
    let asked : Asked = record { caller = c.args.caller.now; command = c.in-Message.command; reply = c.ask-reply.result } in
    turns_put c.args.callers.now c.put_reply.result old new (Exchange asked) (record {
      message = c.in-Message.ensures.takes.bytes;
      makes = (c.in-Message.ensures.takes.asks, c.requires.caller);
      some = c.in-Message.ensures.takes.some;
      passes = c.in-Message.ensures.takes.passes;
      handles = c.ask-reply.ensures.step;
    }) c.put_reply.ensures.puts

pub returns-clause-since : goal.returns-clause-since
returns-clause-since g c =
    c.what_a_run_keeps.ensures.legal c.args.engine.now c.ask-reply.new.self c.args.plant.now c.ask-reply.new.plant c.ask-reply.ensures.stops
