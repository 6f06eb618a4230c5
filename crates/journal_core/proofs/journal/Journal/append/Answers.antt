use Rattle.std.proofs.Common.{◌≡◌, ◌+◌, [], ◌∷◌, ◌++◌, ◌∙◌, ap, arith, length, length-append}
use Rattle.journal_core.specs.Journal.{JournalState, group}
use Rattle.journal_core.proofs.Groups.{group_length}
use Rattle.journal_core.proofs.Gates.{gate_within}
use Rattle.journal_core.proofs.Appends.{may_append, stands_more, grown}
use Rattle.journal_core.proofs.journal.Journal.append.Goals as goal

pub commit-requires-clause-begins : goal.commit-requires-clause-begins
commit-requires-clause-begins g c = λ bytes told.
    let pair = g.met.P.Plant.reads c.args.plant.now bytes told in
    let within = gate_within c.args.self.now c.requires.stands.0 bytes (c.requires.stands.1 bytes pair.0 pair.1) in
    omega (arith, within, ap (λ (s : JournalState). s.at) c.self.view_is)

pub commit-requires-clause-ends : goal.commit-requires-clause-ends
commit-requires-clause-ends g c =
    let piece = c.deref.ensures.value ∙ c.fill_room-chain.ensures.filled in
    omega (
      arith,
      ap length piece,
      length-append (group c.self.inside.chain c.args.payload.now) (0 ∷ []),
      group_length c.self.inside.chain c.args.payload.now,
      c.requires.room,
      ap (λ (s : JournalState). s.at) c.self.view_is,
    )

pub returns-in-Ok-clause-grown : goal.returns-in-Ok-clause-grown
returns-in-Ok-clause-grown g c =
    let piece = c.deref.ensures.value ∙ c.fill_room-chain.ensures.filled in
    let size : c.len.result ≡ 37 + length c.args.payload.now =
    omega (
      arith,
      c.len.ensures,
      c.deref.ensures.len,
      ap length piece,
      length-append (group c.self.inside.chain c.args.payload.now) (0 ∷ []),
      group_length c.self.inside.chain c.args.payload.now,
    ) in
    grown c.args.self.now c.self.inside.at c.len.result c.self.inside.spare c.self.inside.chain c.fill_room-chain.result c.args.payload.now c.self.inside.broken
    c.self.view_is size c.fill_room-chain.ensures.chain

pub returns-in-Ok-clause-ok : goal.returns-in-Ok-clause-ok
returns-in-Ok-clause-ok g c =
    let new = returns-in-Ok-clause-grown g c in
    stands_more c.args.self.now c.args.payload.now c.requires.payload c.requires.room (g.P.Plant.told c.args.plant.now).disk.bytes
    (g.P.Plant.stops c.args.plant.now) (g.P.Plant.stops c.commit.new.plant) (g.met.P.Plant.reads c.args.plant.now) _ _
    (ap (λ (s : JournalState). s.at) new) (ap (λ (s : JournalState). s.chain) new) _ _ (ap (λ (s : JournalState). s.at) c.self.view_is)
    (c.deref.ensures.value ∙ c.fill_room-chain.ensures.filled ∙ ap (λ (s : JournalState). group s.chain c.args.payload.now ++ 0 ∷ []) c.self.view_is)
    c.in-Ok.ensures.ok c.in-Ok.ensures.durable

pub returns-in-Ok-clause-moments : goal.returns-in-Ok-clause-moments
returns-in-Ok-clause-moments g c =
    may_append c.args.self.now c.args.payload.now c.requires.payload c.requires.room (g.P.Plant.told c.args.plant.now).disk.bytes
    (g.P.Plant.stops c.args.plant.now) (g.P.Plant.stops c.commit.new.plant) (g.met.P.Plant.reads c.args.plant.now) _ _
    (ap (λ (s : JournalState). s.at) c.self.view_is)
    (c.deref.ensures.value ∙ c.fill_room-chain.ensures.filled ∙ ap (λ (s : JournalState). group s.chain c.args.payload.now ++ 0 ∷ []) c.self.view_is)
    c.commit.ensures.moments

pub returns-in-Err-clause-moments : goal.returns-in-Err-clause-moments
returns-in-Err-clause-moments g c =
    may_append c.args.self.now c.args.payload.now c.requires.payload c.requires.room (g.P.Plant.told c.args.plant.now).disk.bytes
    (g.P.Plant.stops c.args.plant.now) (g.P.Plant.stops c.commit.new.plant) (g.met.P.Plant.reads c.args.plant.now) _ _
    (ap (λ (s : JournalState). s.at) c.self.view_is)
    (c.deref.ensures.value ∙ c.fill_room-chain.ensures.filled ∙ ap (λ (s : JournalState). group s.chain c.args.payload.now ++ 0 ∷ []) c.self.view_is)
    c.commit.ensures.moments
