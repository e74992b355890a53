-- Which records begin so.
use Rattle.std.proofs.Common.{◌++◌, length, sym, subst, ◌∙◌, arith}
use Rattle.std.proofs.lemmas.Bool.{eqb-false}
use Rattle.pv_quorum.specs.Parts.{front_bytes}
use Rattle.pv_quorum.specs.Spelling.{IsNoRecord}
use Rattle.pv_quorum.specs.Values.{ballot_of}
use Rattle.pv_quorum.proofs.SpellingLemmas.{no-site, no-promise, no-value, no-kind}
use Rattle.pv_quorum.proofs.record.with_front.Goals as goal
use Rattle.pv_quorum.proofs.record.with_front.Goals.{else-kind-eq-PROMISED-via-then-kind-eq-PROMISED+else-is_empty, else-kind-eq-PROMISED-via-else-kind-eq-PROMISED}

pub returns-then-txn-ge-MAX_SITES : goal.returns-then-txn-ge-MAX_SITES
returns-then-txn-ge-MAX_SITES c = no-site c.args.front.kind c.args.front.txn (ballot_of c.args.front.ballot) c.args.value.now (omega arith) (omega arith) c.if-txn-ge-MAX_SITES.true

pub returns-then-kind-ne-ACCEPTED : goal.returns-then-kind-ne-ACCEPTED
returns-then-kind-ne-ACCEPTED c =
    elim c.else-kind-eq-PROMISED.branch [
      | else-kind-eq-PROMISED-via-then-kind-eq-PROMISED+else-is_empty w ↦
          subst (λ kind. IsNoRecord (front_bytes kind c.args.front.txn (ballot_of c.args.front.ballot) ++ c.args.value.now)) (sym w.if-kind-eq-PROMISED.true)
          (no-promise c.args.front.txn (ballot_of c.args.front.ballot) c.args.value.now (omega arith)
          (omega (arith, eqb-false (length c.args.value.now) 0 (sym w.is_empty.ensures ∙ w.if-is_empty.false))))
      | else-kind-eq-PROMISED-via-else-kind-eq-PROMISED w ↦
          no-kind c.args.front.kind c.args.front.txn (ballot_of c.args.front.ballot) c.args.value.now (omega arith) (omega arith)
          (λ is. omega (arith, is, w.if-kind-eq-PROMISED.false)) (λ is. omega (arith, is, c.if-kind-ne-ACCEPTED.true))
    ]

pub returns-in_err-commits : goal.returns-in_err-commits
returns-in_err-commits c =
    rw c.from_residual.ensures
    (subst (λ kind. IsNoRecord (front_bytes kind c.args.front.txn (ballot_of c.args.front.ballot) ++ c.args.value.now)) (sym c.if-kind-ne-ACCEPTED.false)
    (no-value c.args.front.txn (ballot_of c.args.front.ballot) c.args.value.now (omega arith) c.in_err-commits.ensures))
