-- One more line counts where it is so.
use Rattle.std.proofs.Common.{◌≡◌, ◌+◌, Bool, cond, sym, ap, ◌∙◌, arith}
use Rattle.pv_run.specs.Summary.{refuses_txn}
use Rattle.pv_run.proofs.SummaryLemmas.{count-step}
use Rattle.pv_run.proofs.summary.count_refusals.Goals as goal
use Rattle.pv_run.proofs.summary.count_refusals.Goals.{then-refuses_txn, else-refuses_txn}

pub loop-line-preserved : goal.loop-line-preserved
loop-line-preserved c =
    let before = c.loop-line.refused in
    let step = count-step refuses_txn c.args.lines.now c.loop-line.line-index c.line-item.result c.refuses_txn.result before c.if-refuses_txn.refused c.loop-line-test.true c.line-item.is
    c.refuses_txn.ensures c.loop-line.invariant.0 in
    elim c.if-refuses_txn.branch [
      | then-refuses_txn w ↦ (step (w.refused-is ∙ ap (λ (b : Bool). before + cond b 1 0) (sym w.if-refuses_txn.true)), omega (arith, w.refused-is, c.loop-line.invariant.1))
      | else-refuses_txn w ↦ (
        step (w.refused-is ∙ let none : before ≡ before + 0 = omega arith in none ∙ ap (λ (b : Bool). before + cond b 1 0) (sym w.if-refuses_txn.false)),
        omega (arith, w.refused-is, c.loop-line.invariant.1),
      )
    ]
