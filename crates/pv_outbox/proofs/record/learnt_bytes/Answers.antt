-- The kind, the transaction, and its outcome.
use Rattle.std.proofs.Common.{◌++◌, ap, ◌∙◌, arith}
use Rattle.pv_base.specs.BigEndian.{big_endian}
use Rattle.pv_outbox.proofs.SpellingLemmas.{learnt-spelled, two-parts, txn-bytes, truth-bytes}
use Rattle.pv_outbox.proofs.record.learnt_bytes.Goals as goal

pub returns : goal.returns
returns c =
    let txn = txn-bytes c.args.txn c.requires (omega arith) (omega arith) in
    let truth = truth-bytes c.args.commits in
    learnt-spelled c.args.txn c.args.commits txn.0 truth.0 c.done.result.items txn.1 truth.1
    (c.done.ensures
    ∙ two-parts (big_endian 1 18) txn.0 truth.0 c.u8.new.self.bytes c.put_txn.new.put.bytes c.put_truth.new.put.bytes
    (c.in_ok-u8.ensures.written ∙ ap (λ front. front ++ big_endian 1 18) c.new-put.ensures)
    (c.in_ok-put_txn.ensures.written txn.0 txn.1)
    (c.in_ok-put_truth.ensures.written truth.0 truth.1))
