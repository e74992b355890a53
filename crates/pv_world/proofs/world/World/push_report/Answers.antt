-- The lines of a report are appended one after another.
use Rattle.std.proofs.Common.{List, [], ◌∷◌, ◌++◌, map, ◌∙◌}
use Rattle.pv_base.specs.declared.txn.TxnId.{TxnId}
use Rattle.pv_protocol.specs.Committed.{is_committed}
use Rattle.pv_protocol.specs.Lines as lines
use Rattle.pv_protocol.specs.Report.{item_lines, readings, report_of}
use Rattle.pv_protocol.specs.State.{Placed, TakenGrant}
use Rattle.pv_script.specs.LineView.{line_of}
use Rattle.pv_site.specs.SiteState.{setup_of}
use Rattle.pv_world.proofs.OrderLemmas.{same-filter, same-seen}
use Rattle.pv_world.proofs.ReportLemmas.{report-lines}
use Rattle.pv_world.specs.OpenWith.{is_open_with}
use Rattle.pv_world.specs.Stands.{placed_of}
use Rattle.pv_world.proofs.world.World.push_report.Goals as goal

pub returns : goal.returns
unfolding report_of
returns c = λ is stands one ordered.
    let kept = c.args.self.now.order.items in
    let seen : Placed → TxnId × List TakenGrant = λ placed. (placed.txn, placed.grants) in
    let txn = λ (taken : TxnId × List TakenGrant). taken.0 in
    let all = c.in_ok-ordered.ensures ∙ same-seen placed_of seen txn kept is.order stands.order in
    let done = c.in_ok-committed.ensures is stands one ∙ same-filter placed_of seen (λ taken. is_committed is taken.0) txn kept is.order stands.order in
    let still = c.in_ok-open_ones.ensures is stands one ordered ∙ same-filter placed_of seen (is_open_with is) txn kept is.order stands.order in
    report-lines line_of c.args.lines.now.items _ _ _ _ _ _ _ _ _ _ c.in_ok-push.ensures.items c.in_ok-push-2.ensures.items c.in_ok-push-3.ensures.items
    (c.in_ok-push_items.ensures is stands) c.in_ok-push-4.ensures.items
    ∙ (λ i. map line_of c.args.lines.now.items
    ++ (lines.Line.order (all i) ∷ (lines.Line.committed (done i) ∷ (lines.Line.open_ones (still i) ∷ (item_lines 0 (readings (setup_of c.args.self.now.catalog) is) ++ lines.Line.end ∷ [])))))
