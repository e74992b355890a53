-- The text so far is that of the lines so far.
use Rattle.std.proofs.Common.{◌≡◌, map, take}
use Rattle.pv_run.specs.Forms.{lines_in}
use Rattle.pv_run.specs.declared.form.Form.TheVariants.{Text}
use Rattle.pv_script.specs.LineView.{line_of}
use Rattle.pv_embed_world.proofs.kept.text_of.Given as goal

abbrev pub invariant-loop-line : goal.invariant-loop-line
invariant-loop-line l = l.text.items ≡ lines_in Text l.catalog (map line_of (take l.line-index l.lines))
