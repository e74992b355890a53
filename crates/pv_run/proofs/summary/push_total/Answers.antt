-- The last total names only items of the catalog, as all lines do.
use Rattle.std.proofs.Common.{◌≡◌, Option, Some, IfSome, map, None, sym, ap, ◌∙◌, subst}
use Rattle.std.specs.Option.{option_map}
use Rattle.pv_protocol.specs.Lines as model
use Rattle.pv_report.specs.NamesOnlyItems.{NamesOnlyItems}
use Rattle.pv_script.specs.LineView.{line_of}
use Rattle.pv_run.specs.Summary.{latest, total_in}
use Rattle.pv_run.proofs.SummaryLemmas.{All-latest}
use Rattle.pv_run.proofs.summary.push_total.Goals as goal

pub push_line-requires : goal.push_line-requires
push_line-requires c =
    let lines = map line_of c.args.lines.now in
    let last : latest total_in None lines ≡ Some (line_of c.in-Some.line.now) = sym c.last_total.ensures ∙ ap (option_map (λ line. line_of line.now)) c.in-Some.is in
    record { items = subst (λ (o : Option model.Line). IfSome o (NamesOnlyItems c.args.catalog.now)) last (All-latest (NamesOnlyItems c.args.catalog.now) None lines tt c.requires.items) }
