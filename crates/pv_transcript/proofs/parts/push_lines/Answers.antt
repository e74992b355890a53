-- The next line names only items of the catalog, as all do; where it finds no memory, the text begins that of all lines.
use Rattle.std.proofs.Common.{◌++◌, map}
use Rattle.pv_protocol.specs.LineText.{line_text, text_of}
use Rattle.pv_report.specs.NamesOnlyItems.{NamesOnlyItems}
use Rattle.pv_script.specs.LineView.{line_of}
use Rattle.pv_transcript.specs.Begins.{Begins}
use Rattle.pv_transcript.proofs.HeldLemmas.{begun_none, on_err}
use Rattle.pv_transcript.proofs.ItemLemmas.{all-mapped, begun_at}
use Rattle.pv_transcript.proofs.parts.push_lines.Goals as goal

pub push_line-requires : goal.push_line-requires
push_line-requires c = record {
  items =
      all-mapped (NamesOnlyItems c.args.catalog.now) line_of c.args.lines.now c.loop-line.line-index c.line-item.result c.requires.items c.loop-line-test.true c.line-item.is;
}

pub returns-in_err-push_line-clause-begun : goal.returns-in_err-push_line-clause-begun
returns-in_err-push_line-clause-begun c =
    let catalog = c.args.catalog.now in
    on_err c.from_residual.result (Begins c.push_line.new.text.items (c.args.text.now.items ++ text_of catalog (map line_of c.args.lines.now)))
    (begun_at (line_text catalog) line_of c.args.lines.now c.loop-line.line-index c.line-item.result c.args.text.now.items c.loop-line.text.items c.push_line.new.text.items
    c.loop-line-test.true c.line-item.is c.loop-line.invariant
    (begun_none c.loop-line.text.items (line_text catalog (line_of c.line-item.result)) c.push_line.new.text.items c.in_err-push_line.ensures.unchanged))
