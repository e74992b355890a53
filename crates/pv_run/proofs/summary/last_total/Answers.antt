-- One more line is the latest total where it is one.
use Rattle.std.proofs.Common.{Bool, Some, Option, cond, sym, ap, ◌∙◌}
use Rattle.std.specs.Option.{option_map}
use Rattle.pv_protocol.specs.Lines as model
use Rattle.pv_script.specs.LineView.{line_of}
use Rattle.pv_run.proofs.SummaryLemmas.{total-step}
use Rattle.pv_run.proofs.summary.last_total.Goals as goal
use Rattle.pv_run.proofs.summary.last_total.Goals.{then-is_total, else-is_total}

pub loop-line-preserved : goal.loop-line-preserved
loop-line-preserved c =
    let before : Option model.Line = option_map (λ line. line_of line.now) c.loop-line.last in
    let step = total-step c.args.lines.now c.loop-line.line-index c.line-item.result c.is_total.result before (option_map (λ line. line_of line.now) c.if-is_total.last)
    c.loop-line-test.true c.line-item.is c.is_total.ensures c.loop-line.invariant in
    elim c.if-is_total.branch [
      | then-is_total w ↦
          step (ap (option_map (λ line. line_of line.now)) w.last-is ∙ ap (λ (b : Bool). cond b (Some (line_of c.line-item.result)) before) (sym w.if-is_total.true))
      | else-is_total w ↦
          step (ap (option_map (λ line. line_of line.now)) w.last-is ∙ ap (λ (b : Bool). cond b (Some (line_of c.line-item.result)) before) (sym w.if-is_total.false))
    ]
