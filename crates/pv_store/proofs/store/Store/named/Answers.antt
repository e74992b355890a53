-- The transaction is named where an item stands there.
use Rattle.std.proofs.Common.{◌∙◌, not, ap}
use Rattle.pv_store.proofs.TouchedLemmas.{named-is}
use Rattle.pv_store.proofs.store.Store.named.Goals as goal

pub returns : goal.returns
returns c = λ here of. ap not c.is_empty.ensures ∙ named-is here c.args.txn c.args.self.now of c.touched.result.now c.touched.ensures.items
