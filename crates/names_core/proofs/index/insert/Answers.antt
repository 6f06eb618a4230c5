use Rattle.names_core.proofs.IndexLemmas.{any-inserted}
use Rattle.names_core.proofs.index.insert.Goals as goal

pub returns : goal.returns
returns c = λ query. any-inserted query c.into_vec.result c.args.set.now.keys c.insert.new.self.keys c.args.labels c.into_vec.ensures c.in_ok-insert.ensures.keys
