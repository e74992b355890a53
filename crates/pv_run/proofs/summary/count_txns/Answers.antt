-- One more line counts where it is so.
use Rattle.std.proofs.Common.{◌≡◌, ◌+◌, Bool, cond, sym, ap, ◌∙◌, arith}
use Rattle.pv_run.specs.Summary.{begins_txn}
use Rattle.pv_run.proofs.SummaryLemmas.{count-step}
use Rattle.pv_run.proofs.summary.count_txns.Goals as goal
use Rattle.pv_run.proofs.summary.count_txns.Goals.{then-begins_txn, else-begins_txn}

pub loop-line-preserved : goal.loop-line-preserved
loop-line-preserved c =
    let before = c.loop-line.begun in
    let step = count-step begins_txn c.args.lines.now c.loop-line.line-index c.line-item.result c.begins_txn.result before c.if-begins_txn.begun c.loop-line-test.true c.line-item.is
    c.begins_txn.ensures c.loop-line.invariant.0 in
    elim c.if-begins_txn.branch [
      | then-begins_txn w ↦ (step (w.begun-is ∙ ap (λ (b : Bool). before + cond b 1 0) (sym w.if-begins_txn.true)), omega (arith, w.begun-is, c.loop-line.invariant.1))
      | else-begins_txn w ↦ (
        step (w.begun-is ∙ let none : before ≡ before + 0 = omega arith in none ∙ ap (λ (b : Bool). before + cond b 1 0) (sym w.if-begins_txn.false)),
        omega (arith, w.begun-is, c.loop-line.invariant.1),
      )
    ]
