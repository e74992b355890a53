-- There are as many lines as items, and each is the one of its item.
use Rattle.std.proofs.Common.{◌<◌, map, length, sym, subst, ap, ◌∙◌, arith, zero-add}
use Rattle.std.proofs.lemmas.List.{length-map}
use Rattle.pv_audit.specs.Traces.{IsItemLine}
use Rattle.pv_audit.proofs.ReportLemmas.{item-at, items-are, items-count, line-at, one-more}
use Rattle.pv_protocol.specs.Lines.{Line}
use Rattle.pv_script.specs.LineView.{line_of}
use Rattle.pv_audit.proofs.report.are_item_lines.Goals as goal

pub returns-then-lines-items : goal.returns-then-lines-items
returns-then-lines-items c = λ declared count are.
    let same = items-count 0 declared (map line_of c.args.lines.now) are in
    let long = length-map c.args.lines.now line_of in
    omega (arith, same, long, count, c.if-lines-items.true)

pub returns-then-not-is_of_item : goal.returns-then-not-is_of_item
returns-then-not-is_of_item c = λ declared count are.
    let long = length-map c.args.lines.now line_of in
    let inside : c.loop-line.line-index < length (map line_of c.args.lines.now) = omega (arith, long, c.loop-line-test.true) in
    let other = rw c.if-not-is_of_item.true at c.is_of_item.ensures in
    let read = line-at c.args.lines.now c.loop-line.line-index c.line-item.result c.loop-line-test.true in
    other (rw c.loop-line.invariant.0 (subst (λ (line : Line). IsItemLine c.loop-line.line-index line) (sym (ap line_of c.line-item.is ∙ read))
    (rw zero-add at (item-at 0 declared (map line_of c.args.lines.now) are c.loop-line.line-index inside))))

pub loop-line-preserved : goal.loop-line-preserved
loop-line-preserved c =
    let is = rw c.if-not-is_of_item.false at c.is_of_item.ensures in
    let read = line-at c.args.lines.now c.loop-line.line-index c.line-item.result c.loop-line-test.true in (
      omega (arith, c.loop-line.invariant.0),
      one-more (map line_of c.args.lines.now) c.loop-line.line-index (line_of c.line-item.result) (ap line_of c.line-item.is ∙ read)
          (rw c.loop-line.invariant.0 at is) c.loop-line.invariant.1,
    )

pub returns : goal.returns
returns c = λ declared count.
    let long = length-map c.args.lines.now line_of in
    items-are 0 declared (map line_of c.args.lines.now) (omega (arith, long, count, c.if-lines-items.false))
    (λ i below. rw zero-add (c.loop-line.invariant.1 i (omega (arith, below, long, c.loop-line-test.false))))
