-- The data are those of the line, and their text is its JSON.
use Rattle.std.proofs.Common.{List, ℕ, ◌++◌, ◌∙◌, ap}
use Rattle.pv_model.specs.ReplyText.{line_feed}
use Rattle.pv_script.specs.LineView.{line_of}
use Rattle.serde_json.specs.Written.{compact_text, has_float}
use Rattle.pv_report.proofs.LineShown.{compact_text-line, has_float-line}
use Rattle.pv_report.proofs.json_form.json.Goals as goal

pub returns : goal.returns
returns c =
    let catalog = c.args.catalog.now in
    let line = line_of c.args.line.now in
    let data_is = c.in_ok-value.ensures.value in
    let named = c.in_ok-value.ensures.plain in
    let printed = c.in_ok-text.ensures.text (ap has_float data_is ∙ has_float-line catalog line named) in
    c.in_ok-push.ensures.items ∙ ap (λ (l : List ℕ). l ++ line_feed) (printed ∙ ap compact_text data_is ∙ compact_text-line catalog line named)
