-- The known ones so far, and those of the transactions left.
use Rattle.std.proofs.Common.{◌≡◌, ◌++◌, drop}
use Rattle.pv_store.specs.Promise.{known_among}
use Rattle.pv_store.proofs.promise.known_outcomes.Given as goal

abbrev pub invariant-loop-txn : goal.invariant-loop-txn
invariant-loop-txn l = l.known.items ++ known_among l.outcomes.outcomes (drop l.txn-index l.txns) ≡ known_among l.outcomes.outcomes l.txns
