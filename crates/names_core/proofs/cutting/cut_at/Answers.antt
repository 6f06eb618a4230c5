use Rattle.std.proofs.Common.{◌==◌}
use Rattle.names_core.proofs.Parts.{slice_split-some, slice_split-none}
use Rattle.names_core.proofs.cutting.cut_at.Goals as goal

pub returns-in-Some-clause-parts : goal.returns-in-Some-clause-parts
returns-in-Some-clause-parts c = (slice_split-some (λ b. b == c.args.byte) c.args.bytes.now c.in-Some.at (cc)).1

pub returns-in-None-clause-whole : goal.returns-in-None-clause-whole
returns-in-None-clause-whole c = slice_split-none (λ b. b == c.args.byte) c.args.bytes.now (cc)
