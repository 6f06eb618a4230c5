use Rattle.std.proofs.Common.{◌≤◌, length, drop, ◌∙◌, ap, arith, length-drop}
use Rattle.std.proofs.lemmas.List.{take_at, take_all}
use Rattle.journal_core.proofs.mounting.read_rest.Goals as goal

pub returns-clause-rest : goal.returns-clause-rest
returns-clause-rest g c = λ bytes told.
    let given = rw told at c.in_ok-read_at.ensures.given in
    let size = c.requires.end bytes told in
    let whole : length (drop 16 bytes) ≤ length c.deref_mut.result.now =
    omega (arith, length-drop 16 bytes, size, ap length c.deref_mut.ensures.value, c.in_ok-rest.ensures) in
    take_at c.read_at.new.out _ c.in_ok-rest.rest.len (c.read_at.auto.out ∙ c.deref_mut.ensures.len) ∙ given ∙ take_all _ (drop 16 bytes) whole
