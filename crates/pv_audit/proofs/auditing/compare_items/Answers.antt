-- One line after another, up to the first that doesn't agree.
use Rattle.std.proofs.Common.{List, length, map, sym, subst}
use Rattle.std.specs.Prelude.{All}
use Rattle.std.proofs.lemmas.List.{take_all, take-map}
use Rattle.pv_audit.specs.Differences.{HasPolyvalue, IsAstray, IsItemOf, LineIsFine}
use Rattle.pv_audit.proofs.AuditLemmas.{all-agreed, astray-first}
use Rattle.pv_audit.proofs.PartSteps.{line-at, line-holds, line-within, lines-more}
use Rattle.pv_protocol.specs.Lines.{Line}
use Rattle.pv_script.specs.LineView.{line_of}
use Rattle.pv_script.specs.declared.line.Line as code
use Rattle.pv_audit.proofs.auditing.compare_items.Goals as goal

pub compare_item-requires : goal.compare_item-requires
compare_item-requires c = line-holds c.args.lines.now c.loop-line.line-index c.line-item.result c.loop-line-test.true c.line-item.is HasPolyvalue c.requires

pub returns-in-Some : goal.returns-in-Some
returns-in-Some c = λ catalog told sorted placed after items same.
    let lines = c.args.lines.now in
    let i = c.loop-line.line-index in
    let line = c.line-item.result in
    let own = line-holds lines i line c.loop-line-test.true c.line-item.is (IsItemOf (length catalog.items)) (subst (All (IsItemOf (length catalog.items))) (sym same) items) in
    let found = rw c.in-Some.is at (c.in_ok-verdict.ensures catalog told sorted placed after own) in
    let fine = subst (All (LineIsFine catalog told)) (sym (take-map line_of i lines)) (c.loop-line.invariant catalog told sorted placed after items same) in (
      found.0,
      found.1,
      found.2,
      astray-first catalog told (map line_of lines) i (line_of line) found.0 found.1 same (line-within lines i line c.loop-line-test.true c.line-item.is) fine
          (subst (λ (l : Line). IsAstray catalog told l found.0 found.1) (sym (line-at lines i line c.loop-line-test.true c.line-item.is)) found.3),
    )

pub loop-line-preserved : goal.loop-line-preserved
loop-line-preserved c = λ catalog told sorted placed after items same.
    let lines = c.args.lines.now in
    let i = c.loop-line.line-index in
    let line = c.line-item.result in
    let own = line-holds lines i line c.loop-line-test.true c.line-item.is (IsItemOf (length catalog.items)) (subst (All (IsItemOf (length catalog.items))) (sym same) items) in
    let fine = rw c.in_default.is at (c.in_ok-verdict.ensures catalog told sorted placed after own) in
    lines-more lines i line c.loop-line-test.true c.line-item.is (LineIsFine catalog told) (c.loop-line.invariant catalog told sorted placed after items same) fine

pub returns : goal.returns
returns c = λ catalog told sorted placed after items same.
    all-agreed catalog told (map line_of c.args.lines.now) same
    (subst (λ (l : List code.Line). All (LineIsFine catalog told) (map line_of l)) (take_all c.loop-line.line-index c.args.lines.now c.loop-line-test.false)
    (c.loop-line.invariant catalog told sorted placed after items same))
