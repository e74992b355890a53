-- What an event prints names only items of the catalog.
use Rattle.std.proofs.Common.{All, List, ◌++◌, map, sym, ap, ◌∙◌, subst}
use Rattle.pv_base.specs.Catalog.{Declared}
use Rattle.pv_law_lines.proofs.LineItems.{lines-name-items}
use Rattle.pv_protocol.specs.Lines.{Line}
use Rattle.pv_report.specs.NamesOnlyItems.{NamesOnlyItems}
use Rattle.pv_script.specs.LineView.{line_of}
use Rattle.pv_script.specs.ScheduleView.{event_of}
use Rattle.pv_site.specs.SiteState.{setup_of}
use Rattle.pv_run.specs.Forms.{lines_in}
use Rattle.pv_run.specs.declared.form.Form.TheVariants.{Text}
use Rattle.pv_embed_world.proofs.hosted_world.advance.Goals as goal

pub push-requires : goal.push-requires
push-requires c =
    let world = c.args.world.now in
    let is = c.requires.stands.0 in
    let steps = c.in-Ok.ensures is c.requires.stands.1 in
    subst (λ (catalog : Declared). All (NamesOnlyItems catalog) (map line_of c.deref.result.now)) c.requires.catalog
    (subst (All (NamesOnlyItems world.catalog)) (sym (ap (map line_of) c.deref.ensures.value ∙ steps.2))
    (lines-name-items (setup_of world.catalog) is (event_of c.args.event.now)))

pub returns-in-Ok-push : goal.returns-in-Ok-push
returns-in-Ok-push c = λ is stands.
    let steps = c.in-Ok.ensures is stands in
    record {
      stands = steps.0;
      same = steps.1;
      kept =
          c.in-Ok-push.ensures.text
          ∙ ap (λ (catalog : Declared). c.args.kept.now ++ lines_in Text catalog (map line_of c.deref.result.now)) (sym c.requires.catalog)
          ∙ ap (λ (lines : List Line). c.args.kept.now ++ lines_in Text c.args.world.now.catalog lines) (ap (map line_of) c.deref.ensures.value ∙ steps.2);
    }
