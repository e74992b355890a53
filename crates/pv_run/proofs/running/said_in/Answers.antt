-- No line of an empty text counts.
use Rattle.std.proofs.Common.{[], refl, sym, ap, ◌∙◌}
use Rattle.pv_run.specs.Traced.{said_in}
use Rattle.pv_run.specs.declared.form.Form.{Form}
use Rattle.pv_run.proofs.SaidLemmas.{significant-nil}
use Rattle.pv_run.proofs.running.said_in.Goals as goal

pub returns-in-Text : goal.returns-in-Text
returns-in-Text c = significant-nil [] refl ∙ sym (ap (λ (form : Form). said_in form c.args.input.now) c.in-Text.is)

pub returns-in-Json : goal.returns-in-Json
returns-in-Json c = significant-nil [] refl ∙ sym (ap (λ (form : Form). said_in form c.args.input.now) c.in-Json.is)
