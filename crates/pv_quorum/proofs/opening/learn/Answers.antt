-- The record is noted at its transaction.
use Rattle.std.proofs.Common.{◌≡◌, List, sym, ap, subst, ◌∙◌}
use Rattle.std.specs.Prelude.{if◌then◌else◌}
use Rattle.pv_base.specs.Assignment.{is_same_txn}
use Rattle.pv_base.specs.declared.txn.TxnId.{TxnId}
use Rattle.pv_quorum.specs.Knows.{IsRecorded}
use Rattle.pv_quorum.specs.MemoryView.{known_at}
use Rattle.pv_quorum.specs.Spelling.{txn_in}
use Rattle.pv_quorum.specs.Values.{record_of}
use Rattle.pv_quorum.specs.declared.known.Known.{Known}
use Rattle.pv_quorum.proofs.LearnLemmas.{remembers-more}
use Rattle.pv_quorum.proofs.opening.learn.Goals as goal

pub returns : goal.returns
returns c = λ entries range was.
    let found : c.known.result ≡ known_at c.args.memory.now.known (txn_in (record_of c.args.entry)) =
    c.known.ensures ∙ ap (λ (pairs : List (TxnId × Known)). known_at pairs c.txn-txn.result) c.reserve.ensures.same
    ∙ ap (known_at c.args.memory.now.known) c.txn-txn.ensures in
    remembers-more entries (record_of c.args.entry) c.args.memory.now.known c.put.new.self.known c.and.result
    (λ other. c.put.ensures other
    ∙ ap (λ (t : TxnId). if is_same_txn other t then c.and.result else known_at c.reserve.new.self.known other) c.txn-txn.ensures
    ∙ ap (λ (pairs : List (TxnId × Known)). if is_same_txn other (txn_in (record_of c.args.entry)) then c.and.result else known_at pairs other) c.reserve.ensures.same)
    (λ recorded. c.and.ensures.recorded entries range (subst (IsRecorded (txn_in (record_of c.args.entry)) entries) (sym found) recorded))
    (c.and.ensures.proposal ∙ ap (λ (known : Known). known.proposal) found)
    was
