-- A line without words begins with none.
use Rattle.std.proofs.Common.{refl}
use Rattle.pv_model.specs.LineForms.{scheduled}
use Rattle.pv_script.proofs.SaidLemmas.{unknown-nil}
use Rattle.pv_script.proofs.said.split.Goals as goal

pub returns-in_default-clause-unknown : goal.returns-in_default-clause-unknown
returns-in_default-clause-unknown c = (refl, unknown-nil scheduled c.args.words.now c.in_default.len_below)
