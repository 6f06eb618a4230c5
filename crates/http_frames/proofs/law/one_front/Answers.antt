use Rattle.http_frames.proofs.FrameLemmas.{fronts_stay}
use Rattle.http_frames.proofs.OneFront.{one_front}
use Rattle.http_frames.proofs.law.one_front.Goals as goal

pub returns : goal.returns
returns c = record { one = one_front; stays = fronts_stay }
