use Rattle.std.proofs.lemmas.Result.{IfErr-weaker, on_ok_weaker}
use Rattle.gate_settings.proofs.Kept.{none_broken, tells_least}
use Rattle.gate_settings.proofs.settings.read.Goals as goal

pub returns-clause-kept : goal.returns-clause-kept
returns-clause-kept c =
    let read = c.in_ok-document in
    on_ok_weaker c.settings_of.result (none_broken c.args.bytes.now read.document read.ensures.ok read.ensures.kept) c.settings_of.ensures.kept

pub returns-clause-err : goal.returns-clause-err
returns-clause-err c =
    let read = c.in_ok-document in
    IfErr-weaker c.settings_of.result _ _ (λ fault h. tells_least c.args.bytes.now read.document read.ensures.ok read.ensures.kept fault h) c.settings_of.ensures.err
