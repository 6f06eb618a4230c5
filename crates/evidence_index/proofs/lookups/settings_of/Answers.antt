use Rattle.evidence_index.proofs.lookups.settings_of.Goals as goal

pub returns-in-Ok : goal.returns-in-Ok
returns-in-Ok c = (c.one_settings.ensures.exact c.args.bytes.now c.in-Ok.settings).0 c.in-Ok.ensures.ok
