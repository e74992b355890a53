-- The text so far is that of the transactions so far.
use Rattle.std.proofs.Common.{◌≡◌, ◌++◌, take}
use Rattle.pv_base.specs.Txn.{txn_text}
use Rattle.pv_protocol.specs.LineText.{spaced}
use Rattle.pv_audit_run.proofs.verdict_text.push_txns.Given as goal

abbrev pub invariant-loop-txn : goal.invariant-loop-txn
invariant-loop-txn l = l.text.items ≡ l.initial.text.items ++ spaced txn_text (take l.txn-index l.txns)
