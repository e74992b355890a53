-- The next line comes after those that were put.
use Rattle.std.proofs.Common.{List, ◌++◌, drop, ap, ◌∙◌, arith}
use Rattle.pv_model.specs.Schedule.{significant}
use Rattle.pv_model.specs.Text.{TextLine}
use Rattle.pv_run.specs.Traced.{first_said}
use Rattle.pv_run.proofs.SaidLemmas.{drop-next, said-on}
use Rattle.pv_run.proofs.said.push_front.Goals as goal

pub loop-pushed-preserved : goal.loop-pushed-preserved
loop-pushed-preserved c =
    let pushed = c.loop-pushed.pushed in
    let said = significant c.args.said.now in
    let way = c.loop-pushed.invariant in (
      said-on pushed said c.args.text.now.items c.loop-pushed.text.items c.push_next.new.text.items way.0
          (c.in_ok-rest.ensures.text ∙ ap (λ (left : List TextLine). c.loop-pushed.text.items ++ first_said left) way.1),
      c.in_ok-rest.ensures.rest ∙ ap (drop 1) way.1 ∙ drop-next pushed said,
      omega (arith, c.loop-pushed-test.true),
    )
