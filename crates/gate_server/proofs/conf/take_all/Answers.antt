use Rattle.std.proofs.Common.{◌≡◌, ℕ, take, [], subst, rules, arith}
use Rattle.std.specs.Io.KnownBytes.{Consumes}
use Rattle.std.proofs.lemmas.Bool.Decides.{nat_tests}
use Rattle.gate_server.specs.Conf.{most_read}
use Rattle.gate_server.proofs.Taken.{gave_end, gave_front}
use Rattle.gate_server.proofs.conf.take_all.Goals as goal

pub returns-in-Ok-eq0-clause-gave : goal.returns-in-Ok-eq0-clause-gave
returns-in-Ok-eq0-clause-gave g c =
    let was = c.loop-piece.invariant in
    let told = c.in-Ok-eq0.ensures.bytes in
    let zero : c.in-Ok-eq0.field-0 ≡ 0 = grind (arith, nat_tests, c.in-Ok-eq0.field-0-test) in
    let none : Consumes (g.F.Source.told c.loop-piece.conf).left (g.F.Source.told c.take.new.self).left [] = subst (λ (n : ℕ). Consumes (g.F.Source.told c.loop-piece.conf).left (g.F.Source.told c.take.new.self).left
    (take n c.take.new.out)) zero told.0 in
    gave_end most_read (g.F.Source.told c.args.conf.now).left (g.F.Source.told c.loop-piece.conf).left (g.F.Source.told c.take.new.self).left c.loop-piece.bytes.items
    was.taken none (told.1 zero (search rules)) was.fits

pub returns-clause-gave : goal.returns-clause-gave
returns-clause-gave g c =
    let was = c.loop-piece.invariant in
    let test = c.loop-piece-test.false in
    gave_front most_read (g.F.Source.told c.args.conf.now).left (g.F.Source.told c.loop-piece.conf).left c.loop-piece.bytes.items was.taken
    (grind (arith, nat_tests, test, was.fits, c.len.ensures))
