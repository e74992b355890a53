use Rattle.std.proofs.Common.{◌≡◌, ◌≤◌, ◌+◌, ◌++◌, length, map, drop}
use Rattle.std.specs.Prelude.{is_none, vec_len, vec_capacity}
use Rattle.std.specs.List.{filter}
use Rattle.pv_base.specs.declared.txn.TxnId.{TxnId}
use Rattle.pv_locks.specs.LockTable.{grant_of}
use Rattle.pv_protocol.specs.Tick.{ask_sends}
use Rattle.pv_site.specs.Values.{outgoing_of}
use Rattle.pv_site.proofs.ticking.push_questions.Given as goal

abbrev pub invariant-loop-txn : goal.invariant-loop-txn
invariant-loop-txn l = record {
  room : vec_len l.sends + length l.txns ≤ vec_capacity l.sends + l.txn-index;
  asked : map outgoing_of l.fn.sends.items ++ ask_sends (filter (λ (txn : TxnId). is_none (grant_of l.fn.locks txn)) l.fn.txns)
      ≡ map outgoing_of l.sends.items ++ ask_sends (filter (λ (txn : TxnId). is_none (grant_of l.fn.locks txn)) (drop l.txn-index l.txns));
}
