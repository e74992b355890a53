-- How the lines of a run are written: each as text, or each as JSON.
use Rattle.std.specs.Prelude.{ℕ, List, flat_map}
use Rattle.pv_base.specs.Catalog.{Declared}
use Rattle.pv_run.specs.declared.form.Form.{Form}
use Rattle.pv_run.specs.declared.form.Form.TheVariants.{Text, Json, Trace}
use Rattle.pv_protocol.specs.Lines.{Line}
use Rattle.pv_protocol.specs.LineText.{line_text}
use Rattle.pv_report.specs.LineJson.{json_line}

-- one line in this form
abbrev pub line_in : Form → Declared → Line → List ℕ
line_in Text catalog line = line_text catalog line
line_in Json catalog line = json_line catalog line
line_in Trace catalog line = line_text catalog line

-- lines in this form, one after another
abbrev pub lines_in : Form → Declared → List Line → List ℕ
lines_in form catalog lines = flat_map (line_in form catalog) lines
