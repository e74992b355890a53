-- An item that stands somewhere has a value, which names the transaction.
use Rattle.pv_store.proofs.TouchedLemmas.{left-none, left-old}
use Rattle.pv_store.proofs.values.leave_old.Goals as goal

pub returns-in_default-clause-touched : goal.returns-in_default-clause-touched
returns-in_default-clause-touched c = left-none c.args.values.now c.args.dependents.now.touched c.args.item.0 c.in_default.ensures

pub returns-clause-touched : goal.returns-clause-touched
returns-clause-touched c = λ are.
    left-old c.args.values.now c.args.dependents.now.touched c.leave_all.new.dependents.touched c.args.item.0 c.in-Some.old.now c.txns.result.now
    c.in-Some.ensures c.txns.ensures are c.leave_all.ensures.touched
