use Rattle.wire_front.proofs.streaming.Stream.take_message.Goals as goal

pub returns-in-None-clause-ahead : goal.returns-in-None-clause-ahead
returns-in-None-clause-ahead g c = λ command left begins.
    absurd (c.in-None.ensures.none begins.message begins.rest command begins.asks begins.whole)
