-- Each piece is put behind the one before.
use Rattle.std.proofs.Common.{◌++◌, codes, decimal}
use Rattle.std.proofs.lemmas.Result.{on_ok_weaker}
use Rattle.pv_base.specs.Txn.{txn_text}
use Rattle.pv_protocol.specs.LineText.{name_of}
use Rattle.pv_report.proofs.PieceLemmas.{put_behind}
use Rattle.pv_report.proofs.line.push_conflict.Goals as goal

pub returns-clause-text : goal.returns-clause-text
returns-clause-text c =
    let old = c.args.text.now.items in
    let word = c.extend_from_slice.new.self.items in
    let site = c.push_number.new.text.items in
    let space = c.extend_from_slice-2.new.self.items in
    let item = c.push_name.new.text.items in
    let new = c.push_with_txn.new.text.items in
    let holder = codes " " ++ txn_text c.args.holder in
    let name = name_of c.args.catalog.now c.args.item.0 in
    on_ok_weaker c.push_with_txn.result
    (λ written.
    put_behind old word new (codes "conflict ") (decimal c.args.site.0 ++ (codes " " ++ (name ++ holder))) c.in_ok-extend_from_slice.ensures.items
    (put_behind word site new (decimal c.args.site.0) (codes " " ++ (name ++ holder)) c.in_ok-push_number.ensures.text
    (put_behind site space new (codes " ") (name ++ holder) c.in_ok-extend_from_slice-2.ensures.items
    (put_behind space item new name holder c.in_ok-push_name.ensures.text written))))
    c.push_with_txn.ensures.text
