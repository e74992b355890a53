-- Nothing is passed, so the first line has the number 1.
use Rattle.std.proofs.Common.{zero-add}
use Rattle.pv_audit.specs.Entries.{entries}
use Rattle.pv_audit.proofs.entries.Entries.new.Goals as goal

pub returns : goal.returns
unfolding entries
returns c = simp zero-add
