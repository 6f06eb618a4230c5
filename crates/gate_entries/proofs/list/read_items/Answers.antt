use Rattle.std.proofs.Common.{arith}
use Rattle.std.proofs.lemmas.Result.{err_from_is_err_and}
use Rattle.gate_entries.specs.Field.{items_at}
use Rattle.gate_entries.proofs.Loop.{goes_on, fails, is_done}
use Rattle.gate_entries.proofs.list.read_items.Goals as goal

pub returns-in_err-item-clause-exact : goal.returns-in_err-item-clause-exact
returns-in_err-item-clause-exact g c =
    let returned = err_from_is_err_and c.from_residual.result c.from_residual.ensures.1 in
    rw (returned.1, returned.2) (fails g.T.Field.reading c.loop.items c.args.count c.loop.counter c.loop.rest.now (items_at g.T.Field.reading c.args.count c.args.bytes.now) c.loop.invariant.read
    c.in_err-item.field-0.0 c.loop-test.true c.in_err-item.ensures.exact)

pub loop-preserved : goal.loop-preserved
loop-preserved g c = record {
  read = rw c.in_ok-push.ensures.ok (goes_on g.T.Field.reading c.loop.items c.args.count c.loop.counter c.loop.rest.now (items_at g.T.Field.reading c.args.count c.args.bytes.now) c.loop.invariant.read
      c.in_ok-item.item c.in_ok-item.after.now c.loop-test.true c.in_ok-item.ensures.exact);
  within = omega (arith, c.in_ok-item.ensures.within);
}

pub returns-clause-exact : goal.returns-clause-exact
returns-clause-exact g c =
    is_done g.T.Field.reading c.loop.items c.args.count c.loop.counter c.loop.rest.now (items_at g.T.Field.reading c.args.count c.args.bytes.now) c.loop.invariant.read c.loop-test.false
