use Rattle.std.proofs.Common.{sym}
use Rattle.profile_lint.proofs.contents.time_of.Goals as goal

pub returns : goal.returns
returns c = record { exact = λ seconds. rw (sym c.tag.ensures, sym c.content.ensures) (c.read_time.ensures seconds) }
