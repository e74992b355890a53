-- Nothing is passed, so the first line has the number 1.
use Rattle.std.proofs.Common.{zero-add}
use Rattle.pv_model.specs.Text.{numbered}
use Rattle.pv_lines.proofs.lines.Lines.new.Goals as goal

pub returns : goal.returns
unfolding numbered
returns c = simp zero-add
