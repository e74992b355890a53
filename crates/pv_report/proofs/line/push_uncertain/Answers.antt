-- Each piece is put behind the one before.
use Rattle.std.proofs.Common.{◌++◌, codes, decimal}
use Rattle.std.proofs.lemmas.Result.{on_ok_weaker}
use Rattle.pv_protocol.specs.LineText.{name_of}
use Rattle.pv_report.proofs.PieceLemmas.{put_behind}
use Rattle.pv_report.proofs.line.push_uncertain.Goals as goal

pub returns-clause-text : goal.returns-clause-text
returns-clause-text c =
    let old = c.args.text.now.items in
    let word = c.extend_from_slice.new.self.items in
    let item = c.push_name.new.text.items in
    let space = c.extend_from_slice-2.new.self.items in
    let new = c.push_number.new.text.items in
    let name = name_of c.args.catalog.now c.args.item.0 in
    let number = decimal c.args.names in
    on_ok_weaker c.push_number.result
    (λ written.
    put_behind old word new (codes "uncertain ") (name ++ (codes " " ++ number)) c.in_ok-extend_from_slice.ensures.items
    (put_behind word item new name (codes " " ++ number) c.in_ok-push_name.ensures.text
    (put_behind item space new (codes " ") number c.in_ok-extend_from_slice-2.ensures.items written)))
    c.push_number.ensures.text
