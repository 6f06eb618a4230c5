use Rattle.wire_front.proofs.CutLemmas.{other_begun}
use Rattle.wire_front.proofs.cutting.short_of.Goals as goal

pub returns-else-starts_with : goal.returns-else-starts_with
returns-else-starts_with c = other_begun c.args.text.now c.args.bytes.now c.requires c.if-starts_with.ensures.value
