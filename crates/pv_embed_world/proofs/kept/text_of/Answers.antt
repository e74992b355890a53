-- The next line names only items of the catalog, as all do.
use Rattle.std.proofs.Common.{◌<◌, length, map, sym, ap, ◌∙◌, subst}
use Rattle.std.proofs.lemmas.List.{get_or-map, length-map}
use Rattle.pv_report.specs.NamesOnlyItems.{NamesOnlyItems}
use Rattle.pv_script.specs.LineView.{line_of}
use Rattle.pv_embed_world.proofs.kept.text_of.Goals as goal

pub push_line-requires : goal.push_line-requires
push_line-requires c =
    let lines = c.args.lines.now in
    let i = c.loop-line.line-index in
    let line = c.line-item.result in
    let inside : i < length lines = c.loop-line-test.true in
    let inside_too : i < length (map line_of lines) = subst (λ n. i < n) (sym (length-map lines line_of)) inside in
    record {
      items =
          subst (NamesOnlyItems c.args.catalog.now) (get_or-map line_of lines i line (line_of line) inside ∙ ap line_of (sym c.line-item.is))
          (c.requires i (line_of line) inside_too);
    }
