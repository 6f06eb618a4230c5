use Rattle.std.proofs.Common.{Option, refl, subst}
use Rattle.gate_entries.specs.declared.entry.Entry.{Entry}
use Rattle.gate_machine.specs.Sends.{body_in}
use Rattle.gate_engine.specs.Engine.{held_as}
use Rattle.gate_engine.specs.Kept.{IsSentOf, KeepsBetween}
use Rattle.gate_engine.proofs.Kept.{may_be_sent}
use Rattle.gate_engine.proofs.Signings.{may_be_signed, carries_signed}
use Rattle.gate_engine.proofs.sending.send_prepared.Goals as goal

pub sign_body-requires-clause-may : goal.sign_body-requires-clause-may
sign_body-requires-clause-may g c =
    may_be_signed c.one_entry_more.ensures.place c.a_signature_follows.ensures c.args.history.now.items c.args.entry c.args.signing c.requires.sound.legal c.requires.ready c.requires.signing
    c.commit.new.history.items (c.if-not-commit.ensures.committed refl).0

pub returns-clause-carries : goal.returns-clause-carries
returns-clause-carries g c =
    let committed = c.if-not-commit.ensures.committed refl in
    let first = g.P.Plant.stops c.args.plant.now in
    let then = g.P.Plant.stops c.commit.new.plant in
    let last = g.P.Plant.stops c.sign_body.new.plant in
    let history = c.args.history.now.items in
    let now = c.commit.new.history.items in
    carries_signed history now c.args.entry c.args.signing (g.P.Plant.told c.args.plant.now) (g.P.Plant.told c.commit.new.plant) (g.P.Plant.told c.sign_body.new.plant)
    first then last c.sign_body.result (held_as c.sign_body.new.history.items c.sign_body.new.loose) c.requires.signing committed.0
    c.commit.ensures.signer c.commit.ensures.keeps.later c.sign_body.ensures.signed
    (c.runs_join.ensures.joins c.args.plant.now c.commit.new.plant c.sign_body.new.plant c.commit.ensures.keeps.since.joins c.sign_body.ensures.keeps.since.joins)
    (λ given. (
      may_be_sent history now c.args.entry (body_in c.args.entry.what) c.args.signing.body then committed.0 c.requires.signing.body
          (λ sent within. c.what_is_sent_is_recorded.ensures.sends sent history c.args.entry c.requires.ready.sends within) (c.commit.ensures.sent given),
      c.commit.ensures.keeps.recorded given,
    ))
    (subst (λ (l : Option Entry). KeepsBetween (IsSentOf history first) history (held_as now l) first then) committed.1 c.commit.ensures.keeps.since)
    c.sign_body.ensures.keeps c.sign_body.ensures.disk
