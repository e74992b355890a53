-- The output waits for the transactions so far.
use Rattle.std.proofs.Common.{ℕ, ◌<◌, get_or}
use Rattle.pv_base.specs.declared.txn.TxnId.{TxnId}
use Rattle.pv_outbox.specs.Covers.{HasAll, WaitsIfUnknown}
use Rattle.pv_outbox.proofs.queue.Queue.wait_for_all.Given as goal

abbrev pub invariant-loop-txn : goal.invariant-loop-txn
invariant-loop-txn l = record {
  more : HasAll l.fn.self l.self;
  waits : (k : ℕ) (d : TxnId) → k < l.txn-index → WaitsIfUnknown l.facts.state l.self l.place (get_or l.txns k d);
}
